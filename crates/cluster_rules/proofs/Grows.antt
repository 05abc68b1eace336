-- What the agreed log's growth leaves as it is.
use Rattle.std.proofs.Common.{◌≡◌, ℕ, ◌-◌, ◌≤◌, Bool, length, take, refl, sym, ◌∙◌, ap, arith}
use Rattle.std.proofs.lemmas.List.{take_all, length-take}
use Rattle.cat_model.specs.declared.query.Query.{Query}
use Rattle.cat_model.specs.declared.command.Command.{Command}
use Rattle.cat_model.specs.declared.request.Mode.{Mode}
use Rattle.cat_model.specs.declared.request.Request.TheVariants.{Read, Execute, Write, Renew, Agent}
use Rattle.cat_model.specs.declared.request.Asked.{Asked}
use Rattle.cat_model.specs.declared.request.Asked.TheVariants.{Good, Bad}
use Rattle.cat_model.specs.declared.reply.Kind.{Kind}
use Rattle.cat_model.specs.declared.reply.Kind.TheVariants.{Acked, At, Seen, Local, Delayed, Refused}
use Rattle.cat_model.specs.Catalog.{session_at}
use Rattle.cat_model.specs.Executions.{execution}
use Rattle.cat_model.specs.Indexes.{index_of}
use Rattle.cat_model.specs.Log.{commands_of}
use Rattle.cat_model.specs.Machine.{catalog_at, reply_to}
use Rattle.cat_model.specs.Queries.{answer}
use Rattle.raft_model.specs.declared.message.Round.{Round}
use Rattle.raft_model.specs.Log.{Log, term_at}
use Rattle.raft_model.specs.World.{World, Move, WorldStep, Reaches, here, next, IsReached}
use Rattle.raft_model.proofs.Logs.{front_take, agree_term}
use Rattle.raft_model.proofs.Theorems.{grows}
use Rattle.cluster_rules.specs.Replies.{Question, entered, Shows, Tells, Runs, Renews, id_in, shown_entry, shown_write, shown_read, shown_seen, shown, reply_of, index_shown}
use Rattle.cluster_rules.specs.Lasting.{IsWrite, IsRead, IsLook, IsSeen, IsEntered, IsAnswerAt, LastsFor, Lasting}
use Rattle.cluster_rules.specs.Sound.{NeverEnters, IsFreshRound}
use Rattle.cluster_rules.proofs.Entries.{entry_within, agree_entry}

-- the world went on
pub record GoesTo (w w' : World) : Type 0 where
  pub grows : take (length w.agreed) w'.agreed ≡ w.agreed
  pub on : (v : World) → Reaches w' v → Reaches w v

pub reaches_from : (w w' v : World) (move : Move) → WorldStep w move w' → Reaches w' v → Reaches w v
reaches_from w w' v move s here = next move here s
reaches_from w w' v move s (next {v = u} m p e) = next m (reaches_from w w' u move s p) e

pub goes_by : (w w' : World) (move : Move) → IsReached w → WorldStep w move w' → GoesTo w w'
goes_by w w' move r s = record { grows = grows w w' move r s; on = λ v p. reaches_from w w' v move s p }

pub goes_nowhere : (w : World) → GoesTo w w
goes_nowhere w = record { grows = take_all (length w.agreed) w.agreed (omega arith); on = λ v r. r }

pub write_map : (asked : Asked) (P Q : Command → Type 0) → ((c : Command) → P c → Q c) → IsWrite asked P → IsWrite asked Q
write_map (Good (Write command)) P Q f x = f command x
write_map (Good (Read query mode least wait raw)) P Q f x = x
write_map (Good (Execute name limit mode)) P Q f x = x
write_map (Good (Renew id)) P Q f x = x
write_map (Good (Agent op)) P Q f x = x
write_map (Bad why) P Q f x = x

pub read_map : (asked : Asked) (P Q : Query → Mode → ℕ → Type 0) → ((q : Query) (m : Mode) (n : ℕ) → P q m n → Q q m n) → IsRead asked P → IsRead asked Q
read_map (Good (Read query mode least wait raw)) P Q f x = f query mode least x
read_map (Good (Write command)) P Q f x = x
read_map (Good (Execute name limit mode)) P Q f x = x
read_map (Good (Renew id)) P Q f x = x
read_map (Good (Agent op)) P Q f x = x
read_map (Bad why) P Q f x = x

pub look_map : (asked : Asked) (P Q : Mode → Type 0) → ((m : Mode) → P m → Q m) → IsLook asked P → IsLook asked Q
look_map (Good (Read query mode least wait raw)) P Q f x = f mode x
look_map (Good (Execute name limit mode)) P Q f x = f mode x
look_map (Good (Write command)) P Q f x = x
look_map (Good (Renew id)) P Q f x = x
look_map (Good (Agent op)) P Q f x = x
look_map (Bad why) P Q f x = x

pub front_length : (a a' : Log) → take (length a) a' ≡ a → length a ≤ length a'
front_length a a' f = let k = ap length f in omega (arith, length-take (length a) a')

module _ (a a' : Log) (front : take (length a) a' ≡ a) where
  same_front : take (length a) a' ≡ take (length a) a
  same_front = front ∙ sym (take_all (length a) a (omega arith))

  entered_grows : (m number : ℕ) (command : Command) → IsEntered m number command a → IsEntered m number command a'
  entered_grows m number command e = record {
    entry = e.entry;
    there = agree_entry m (length a) a' a ((entry_within m a e.entry e.there).1) same_front ∙ e.there;
    number_is = e.number_is;
    command_is = e.command_is;
  }

  prefix_same : (n : ℕ) → n ≤ length a → take n a' ≡ take n a
  prefix_same n l = front_take n a a' front l

  answer_grows : (query : Query) (least prefix index clock deadline : ℕ) → IsAnswerAt query least prefix index clock deadline a → IsAnswerAt query least prefix index clock deadline a'
  answer_grows query least prefix index clock deadline e =
      let l = e.within in
      let k = front_length a a' front in
      record {
        within = omega arith;
        index_is = e.index_is ∙ ap (λ z. index_of query (commands_of z)) (sym (prefix_same prefix l));
        due = e.due;
      }

  lasts_grows : (q : Question) (asked : Asked) (kind : Kind) → LastsFor q asked kind a → LastsFor q asked kind a'
  unfolding LastsFor
  lasts_grows q asked (Acked position) x = write_map asked _ _ (λ c e. entered_grows position q.number (entered q c) e) x
  lasts_grows q asked (At by prefix index clock deadline) x = read_map asked _ _ (λ query mode least e. (e.0, answer_grows query least prefix index clock deadline e.1)) x
  lasts_grows q asked (Seen mode prefix) x = (x.0, let l = x.1 in let k = front_length a a' front in omega arith)
  lasts_grows q asked (Local body) x = x
  lasts_grows q asked (Delayed key until now) x = x
  lasts_grows q asked (Refused why) x = x

  pub lasting_grows : (q : Question) (kind : Kind) → Lasting q kind a → Lasting q kind a'
  lasting_grows q kind x = lasts_grows q q.asked kind x

  write_same : (q : Question) (asked : Asked) (position : ℕ) → IsWrite asked (λ command. IsEntered position q.number (entered q command) a) → shown_write asked position a' ≡ shown_write asked position a
  write_same q (Good (Write command)) position x =
      ap (λ o. shown_entry o position a') (agree_entry position (length a) a' a (entry_within position a x.entry x.there).1 same_front ∙ x.there)
      ∙ ap (λ z. Tells x.entry.command (reply_to (commands_of z) x.entry.command)) (prefix_same (position - 1) (let k = (entry_within position a x.entry x.there).1 in omega arith))
      ∙ sym (ap (λ o. shown_entry o position a) x.there)
  write_same q (Good (Read query mode least wait raw)) position x = refl
  write_same q (Good (Execute name limit mode)) position x = refl
  write_same q (Good (Renew id)) position x = refl
  write_same q (Good (Agent op)) position x = refl
  write_same q (Bad why) position x = refl

  read_same : (asked : Asked) (by : Mode) (prefix index clock deadline : ℕ) → IsRead asked (λ query mode least. (by ≡ mode) × IsAnswerAt query least prefix index clock deadline a) → shown_read asked prefix a' ≡ shown_read asked prefix a
  read_same (Good (Read query mode least wait raw)) by prefix index clock deadline x = ap (λ z. Shows query raw (answer query (catalog_at (commands_of z)))) (prefix_same prefix x.1.within)
  read_same (Good (Write command)) by prefix index clock deadline x = refl
  read_same (Good (Execute name limit mode)) by prefix index clock deadline x = refl
  read_same (Good (Renew id)) by prefix index clock deadline x = refl
  read_same (Good (Agent op)) by prefix index clock deadline x = refl
  read_same (Bad why) by prefix index clock deadline x = refl

  seen_same : (asked : Asked) (by : Mode) (prefix : ℕ) → IsSeen asked by → prefix ≤ length a → shown_seen asked prefix a' ≡ shown_seen asked prefix a
  seen_same (Good (Execute name limit mode)) by prefix x l = ap (λ z. Runs (execution (catalog_at (commands_of z)) (id_in name) name limit)) (prefix_same prefix l)
  seen_same (Good (Renew id)) by prefix x l = ap (λ z. Renews (session_at id (catalog_at (commands_of z)).sessions)) (prefix_same prefix l)
  seen_same (Good (Read query mode least wait raw)) by prefix x l = refl
  seen_same (Good (Write command)) by prefix x l = refl
  seen_same (Good (Agent op)) by prefix x l = refl
  seen_same (Bad why) by prefix x l = refl

  shown_same : (q : Question) (kind : Kind) → LastsFor q q.asked kind a → shown q kind a' ≡ shown q kind a
  unfolding LastsFor shown
  shown_same q (Acked position) x = write_same q q.asked position x
  shown_same q (At by prefix index clock deadline) x = read_same q.asked by prefix index clock deadline x
  shown_same q (Seen mode prefix) x = seen_same q.asked mode prefix x.0 x.1
  shown_same q (Local body) x = refl
  shown_same q (Delayed key until now) x = refl
  shown_same q (Refused why) x = refl

  pub reply_same : (q : Question) (kind : Kind) (known : Bool) (contact : ℕ) → Lasting q kind a → reply_of q kind known contact a' ≡ reply_of q kind known contact a
  reply_same q kind known contact x = ap (λ z. record { number = q.number; index = index_shown kind; content = z; known = known; contact = contact; kind = kind }) (shown_same q kind x)

  pub term_grows : (m : ℕ) → m ≤ length a → term_at m a' ≡ term_at m a
  term_grows m l = agree_term m (length a) a' a l same_front

module _ (w w' : World) (g : GoesTo w w') where
  pub never_grows : (term number : ℕ) → NeverEnters w term number → NeverEnters w' term number
  never_grows term number p v r = p v (g.on v r)

  pub round_grows : (n : ℕ) (round : Round) → IsFreshRound w n round → IsFreshRound w' n round
  round_grows n round p v r = p v (g.on v r)
