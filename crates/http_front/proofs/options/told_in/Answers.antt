use Rattle.std.proofs.Common.{map, rules}
use Rattle.std.specs.Option.{option_copied}
use Rattle.http_front.proofs.Asking.{adds_more, map_none, none_copied}
use Rattle.http_front.proofs.options.told_in.Goals as goal

pub returns-then-not-is_empty : goal.returns-then-not-is_empty
returns-then-not-is_empty c =
    adds_more (map (λ w. w.now) c.args.words.now) (map (λ w. w.now) c.split_told.result.1.now) (map (λ w. w.now) c.split_told-2.result.1.now) (map (λ w. w.now) c.split_told-3.result.1.now) (map (λ w. w.now) c.split_told-4.result.1.now)
    (option_copied c.split_told.result.0) (option_copied c.split_told-2.result.0) (option_copied c.split_told-3.result.0) (option_copied c.split_told-4.result.0)
    c.split_told.ensures.told c.split_told-2.ensures.told c.split_told-3.ensures.told c.split_told-4.ensures.told
    (λ e. c.split_told.ensures.untold (none_copied c.split_told.result.0 e)) (λ e. c.split_told-2.ensures.untold (none_copied c.split_told-2.result.0 e))
    (λ e. c.split_told-3.ensures.untold (none_copied c.split_told-3.result.0 e)) (λ e. c.split_told-4.ensures.untold (none_copied c.split_told-4.result.0 e))
    (λ e. let none = map_none c.split_told-4.result.1.now e in search rules)
