-- The text that a script's run writes.
use Rattle.std.specs.Prelude.{ℕ, List, [], ◌++◌, length, Option, codes}
use Rattle.std.specs.List.{flat_map}
use Rattle.std.specs.Fmt.{decimal}
use Rattle.cat_model.specs.declared.reply.Out as out
use Rattle.cluster_rules.specs.Replies as rules
use Rattle.cluster_rules.specs.Cluster.{Cluster}
use Rattle.filter_expr.specs.Expressions.{Expression}
use Rattle.reply_body.specs.Filtered.{shown}
use Rattle.reply_body.specs.Written.{written}
use Rattle.script_lang.specs.Text.{out_text, end_text}
use Rattle.run_rules.specs.Plays.{Ending, Whole, Refused, Broken}
use Rattle.cluster_interface.specs.Interface.{held_numbers}
use Rattle.script_player.specs.Filters.{Filters, filter_of}

-- an out of the cluster as it is given to the outside: a reply through its request's filter, if that has one
abbrev pub given : Option Expression → rules.Out → out.Out
given f (rules.Replied reply) = out.TheVariants.Reply (written (shown f reply))
given f (rules.Closed number event) = out.TheVariants.Closed number event
given f (rules.Synced agent count) = out.TheVariants.Synced agent count

abbrev pub line_of_out : Option Expression → rules.Out → List ℕ
line_of_out f o = out_text (given f o)

-- the lines of outs, each through the filter of its own request
abbrev pub outs_text : Filters → List rules.Out → List ℕ
outs_text filters outs = flat_map (λ o. line_of_out (filter_of filters o) o) outs

-- the line that says which line is refused, and why
abbrev pub refused_text : ℕ → List ℕ → List ℕ
refused_text line why = codes "line " ++ decimal line ++ codes ": " ++ why ++ codes "\n"

-- the last line of a run, by how its lines ended; one that broke off has none
abbrev pub last_text : Ending → Cluster → List ℕ
last_text Whole c = end_text (length c.world.agreed) (held_numbers c)
last_text (Refused line why) c = refused_text line why
last_text Broken c = []
