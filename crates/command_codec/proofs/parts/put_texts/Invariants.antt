use Rattle.std.proofs.Common.{◌≡◌, ◌++◌, length, take}
use Rattle.std.specs.List.{flat_map, fold}
use Rattle.cat_model.specs.Spelling.{number_bytes, text_bytes}
use Rattle.command_codec.proofs.parts.put_texts.Given as goal

abbrev pub invariant-loop-text : goal.invariant-loop-text
invariant-loop-text g l =
    g.O.Out.seen l.out ≡ fold g.O.Out.after (g.O.Out.seen l.fn.out) (number_bytes (length l.texts) ++ flat_map text_bytes (take l.text-index l.texts))
