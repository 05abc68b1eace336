-- What becomes of a request that was noted last.
use Rattle.std.specs.Prelude.{◌≡◌, ℕ, ◌+◌, false, ◌∷◌, Option}
use Rattle.cat_model.specs.Catalog.{session_at}
use Rattle.cat_model.specs.Log.{commands_of}
use Rattle.cat_model.specs.Machine.{catalog_at}
use Rattle.cat_model.specs.declared.reply.Kind.TheVariants.{Refused, Seen}
use Rattle.cat_model.specs.declared.reply.Refusal.{Refusal}
use Rattle.cat_model.specs.declared.request.Asked.{Asked}
use Rattle.cat_model.specs.declared.request.Draw.{Draw}
use Rattle.cat_model.specs.declared.request.Mode.TheVariants.{Default}
use Rattle.cat_model.specs.declared.row.SessionRow.{SessionRow}
use Rattle.cluster_rules.specs.Cluster.{ForIndex, Looked, clock_of, server_of}
use Rattle.cluster_rules.specs.Replies.{Renews, Reply, Says}
use Rattle.cluster_replicas.specs.Servers.{Servers, officed}
use Rattle.cluster_rules.specs.Offices.{renew_in}
use Rattle.cluster_requests.specs.Requests.{Requests, answered_with, given_with, holding_with, numbered_with, used}

-- Room is taken, and it gets its number.
abbrev pub numbered_newest : ℕ → Asked → Draw → Requests → Requests
numbered_newest agent asked draw r = used (numbered_with agent asked draw (record r { room = 4 }))

-- It is refused.
abbrev pub refused_newest : ℕ → Asked → Draw → Refusal → Requests → Requests
refused_newest agent asked draw why r = used (answered_with (r.asked + 1) (Refused why) false 0 (Says why) (numbered_newest agent asked draw r))

-- Server i holds it until its deadline, and has applied so many positions.
abbrev pub held_newest : ℕ → ℕ → Asked → Draw → (deadline applied : ℕ) → Requests → Requests
held_newest i agent asked draw deadline applied r =
    used (holding_with (record { number = r.asked + 1; agent = agent; asked = asked; draw = draw }) i (ForIndex deadline false) (Looked (r.asked + 1) i applied) (numbered_newest agent asked draw r))

-- It is answered by this reply.
abbrev pub answered_newest : ℕ → Asked → Draw → Reply → Requests → Requests
answered_newest agent asked draw reply r = used (given_with reply (numbered_newest agent asked draw r))

-- It is a renewal at server i, which has applied so many positions, and it is answered with the session's row.
abbrev pub renewed_newest : ℕ → ℕ → Asked → Draw → (applied : ℕ) → Option SessionRow → Requests → Requests
renewed_newest i agent asked draw applied row r =
    let numbered = numbered_newest agent asked draw r in
    used (answered_with (r.asked + 1) (Seen Default applied) false 0 (Renews row) (record numbered { starts = Looked (r.asked + 1) i applied ∷ numbered.starts }))

-- The renewal gets its number and this answer.
abbrev pub GivesRenewal : ℕ → ℕ → Asked → Draw → Reply → (applied : ℕ) → Requests → Requests → Type 0
GivesRenewal i agent asked draw reply applied old new =
    let numbered = used (numbered_with agent asked draw old) in
    new ≡ used (given_with reply (record numbered { starts = Looked reply.number i applied ∷ numbered.starts }))

-- server i renews a session, if it is there
abbrev pub renewed_in : ℕ → ℕ → Servers → Servers
renewed_in i id s = let own = server_of s.servers i in officed i (renew_in (session_at id (catalog_at (commands_of own.applied)).sessions) (clock_of s.world i) own.office) s

-- No more than the room differs.
abbrev pub DiffersInRoom : Requests → Requests → Type 0
DiffersInRoom old new = new ≡ record old { room = new.room }
