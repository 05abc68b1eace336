-- What a connection in memory tells, and what its next read gives.
use Rattle.std.specs.Prelude.{ℕ, max, min, length, take, drop, Some}
use Rattle.serve_outside.specs.declared.mem_link.MemLink.{MemLink}
use Rattle.serve_outside.specs.Traffic.{told_reads}
use Rattle.serve_outside.specs.Links.{LinkState}

abbrev pub told : MemLink → LinkState
told link = record {
  number = link.number;
  heard = Some (take link.at link.script.bytes);
  said = Some link.said.items;
  reads = told_reads link.traffic.seen;
  ends = link.ends;
  read_faults = link.read_faults;
  write_faults = link.write_faults;
  shut = link.shut;
}

-- how many bytes a read gives into a buffer of that size
abbrev pub readable : MemLink → ℕ → ℕ
readable link room = min (max link.script.most 1) (min room (length (drop link.at link.script.bytes)))
