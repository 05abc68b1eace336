-- What a server has written so far.
use Rattle.std.proofs.Common.{ℕ, List, [], Option, sym, append-nil}
use Rattle.std.specs.Io.KnownBytes.{Appends}
use Rattle.std.proofs.KnownBytes.{Appends-trans}
use Rattle.cluster_rules.specs.Cluster.{Cluster}
use Rattle.run_rules.specs.Plays.{Whole}
use Rattle.script_player.specs.Run.{WritesPart}
use Rattle.script_player.specs.Text.{last_text}
use Rattle.script_player.proofs.Written.{part_after}
use Rattle.run_rules.specs.Serving.{Serves, Size}
use Rattle.http_front.specs.declared.options.Options.{Options}
use Rattle.http_front.specs.Served.{Fits, WritesFront, WritesWhole, of_all, all}
use Rattle.http_front.specs.Text.{listening_text}

pub part_whole : (held held' : Option (List ℕ)) (text : List ℕ) → Appends held held' text → WritesPart held held' text
part_whole held held' text written = record { front = text; rest = []; written = written; splits = sym (append-nil text) }

-- the first line, and what was written of the last one
pub front_all : (o : Options) (size : Size) → Fits o size → (a b d : Option (List ℕ)) (c : Cluster) → Serves size c → Appends a b (listening_text o.port) → WritesPart b d (last_text Whole c) → WritesFront o a d
front_all o size f a b d c serves first part = of_all size c f serves (part_after a b d (listening_text o.port) (last_text Whole c) first part)

pub whole_all : (o : Options) (size : Size) → Fits o size → (a b d : Option (List ℕ)) (c : Cluster) → Serves size c → Appends a b (listening_text o.port) → Appends b d (last_text Whole c) → WritesWhole o a d
whole_all o size f a b d c serves first last = all size c f serves (Appends-trans a b d (listening_text o.port) (last_text Whole c) first last)
