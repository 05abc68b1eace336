-- A draw of a generator of random words.
use Rattle.rand_core.specs.Stream.{Stream, next_u64}
use Rattle.cat_model.specs.declared.request.Draw.{Draw}

-- the next two words as a draw, and what is left
abbrev pub next_draw : Stream → Draw × Stream
next_draw stream = let first = next_u64 stream in let second = next_u64 first.1 in (record { hi = first.0; lo = second.0 }, second.1)
