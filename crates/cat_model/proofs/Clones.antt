-- A copy of an entry equals it: what the derived `clone` of a text, a list, a command and so on gives is the same value.
use Rattle.std.proofs.Common.{refl, ◌≡◌, ℕ, Option, None, Some, List, ◌∙◌, ap, sym}
use Rattle.std.specs.Prelude.{⊤}
use Rattle.std.proofs.lemmas.List.Elements.{same_from_all_zip}
use Rattle.cat_model.specs.declared.command.Command.{Command}
use Rattle.cat_model.specs.declared.command.Command.TheVariants.{Noop, Register, Deregister, KvSet, KvCas, KvLock, KvUnlock, KvDelete, KvDeleteCas, KvDeleteTree, Txn, SessionCreate, SessionDestroy, QuerySet, QueryDelete, Reap, Upgrade}
use Rattle.cat_model.specs.contracts.command.CommandClone.TheImpl as command
use Rattle.cat_model.specs.contracts.command.TxnOpClone.TheImpl as op
use Rattle.cat_model.specs.contracts.command.NewCheckClone.TheImpl as check
use Rattle.cat_model.specs.contracts.command.NewServiceClone.TheImpl as service
use Rattle.cat_model.specs.contracts.text.TextClone.TheImpl as text
use Rattle.cat_model.specs.contracts.bytes.BytesClone.TheImpl as bytes
use Rattle.cat_model.specs.contracts.query.ChanClone.TheImpl as chan
use Rattle.cat_model.specs.declared.query.Chan.{Chan}
use Rattle.cat_model.specs.declared.query.Chan.TheVariants as c
use Rattle.cat_model.specs.declared.command.Entry.{Entry}
use Rattle.cat_model.specs.declared.command.TxnOp.{TxnOp}
use Rattle.cat_model.specs.declared.command.NewCheck.{NewCheck}
use Rattle.cat_model.specs.declared.command.NewService.{NewService}

-- a derived clone of an option is none of none, or some clone of the value
abbrev pub BothClones : {A : Type 0} → (A → A → Type 0) → Option A → Option A → Type 0
BothClones R None None = ⊤
BothClones R None (Some y) = ⊥
BothClones R (Some x) None = ⊥
BothClones R (Some x) (Some y) = R x y

pub option_same : {A : Type 0} (R : A → A → Type 0) → ((x y : A) → R x y → y ≡ x) → (x y : Option A) → BothClones R x y → y ≡ x
option_same R same None None h = refl
option_same R same None (Some y) h = absurd h
option_same R same (Some x) None h = absurd h
option_same R same (Some x) (Some y) h = ap (λ z. Some z) (same x y h)

pub text_same : (x y : List ℕ) → (text.ghosts).is_clone x y → y ≡ x
text_same x y h = sym h.3 ∙ h.4 ∙ h.2

pub bytes_same : (x y : List ℕ) → (bytes.ghosts).is_clone x y → y ≡ x
bytes_same x y h = sym h.3 ∙ same_from_all_zip (λ a b. b ≡ a) h.0.vec.items h.1.vec.items h.4.0 (λ a b e. e) ∙ h.2

pub op_same : (x y : TxnOp) → (op.ghosts).is_clone x y → y ≡ x
op_same x y h =
    let verb : y.verb ≡ x.verb = h.0 in let key = text_same x.key y.key h.1.0 in let value = bytes_same x.value y.value h.1.1.0 in
    let flags : y.flags ≡ x.flags = h.1.1.1.0 in let index : y.index ≡ x.index = h.1.1.1.1.0 in
    let session : y.session ≡ x.session = option_same (λ a b. b ≡ a) (λ a b e. e) x.session y.session h.1.1.1.1.1 in
    λ i. record { verb = verb i; key = key i; value = value i; flags = flags i; index = index i; session = session i }

pub check_same : (x y : NewCheck) → (check.ghosts).is_clone x y → y ≡ x
check_same x y h =
    let id = text_same x.id y.id h.0 in let name = text_same x.name y.name h.1.0 in let status : y.status ≡ x.status = h.1.1.0 in
    let notes = text_same x.notes y.notes h.1.1.1.0 in let output = text_same x.output y.output h.1.1.1.1.0 in
    let service = text_same x.service y.service h.1.1.1.1.1 in
    λ i. record { id = id i; name = name i; status = status i; notes = notes i; output = output i; service = service i }

pub service_same : (x y : NewService) → (service.ghosts).is_clone x y → y ≡ x
service_same x y h =
    let id = text_same x.id y.id h.0 in let name = text_same x.name y.name h.1.0 in let tags = h.1.1.0 in
    let zipped = same_from_all_zip _ tags.0.vec.items tags.1.vec.items tags.4.0 text_same in
    let same_tags : y.tags ≡ x.tags = sym tags.3 ∙ zipped ∙ tags.2 in
    let address = text_same x.address y.address h.1.1.1.0 in let port : y.port ≡ x.port = h.1.1.1.1.0 in
    let over : y.tag_override ≡ x.tag_override = h.1.1.1.1.1 in
    λ i. record { id = id i; name = name i; tags = same_tags i; address = address i; port = port i; tag_override = over i }

pub command_same : (x y : Command) → command.by_variants x y → y ≡ x
command_same Noop Noop h = refl
command_same (Register n a s c) (Register n' a' s' c') h =
    let node = text_same n n' h.0 in let address = text_same a a' h.1.0 in
    let service : s' ≡ s = option_same _ service_same s s' h.1.1.0 in let checks = h.1.1.1 in
    let zipped = same_from_all_zip _ checks.0.vec.items checks.1.vec.items checks.4.0 check_same in
    let same_checks : c' ≡ c = sym checks.3 ∙ zipped ∙ checks.2 in
    λ i. Register (node i) (address i) (service i) (same_checks i)
command_same (Deregister n s c) (Deregister n' s' c') h =
    let node = text_same n n' h.0 in let service = text_same s s' h.1.0 in let check = text_same c c' h.1.1 in
    λ i. Deregister (node i) (service i) (check i)
command_same (KvSet k f v) (KvSet k' f' v') h =
    let key = text_same k k' h.0 in let flags : f' ≡ f = h.1.0 in let value = bytes_same v v' h.1.1 in
    λ i. KvSet (key i) (flags i) (value i)
command_same (KvCas k f v n) (KvCas k' f' v' n') h =
    let key = text_same k k' h.0 in let flags : f' ≡ f = h.1.0 in let value = bytes_same v v' h.1.1.0 in
    let index : n' ≡ n = h.1.1.1 in
    λ i. KvCas (key i) (flags i) (value i) (index i)
command_same (KvLock k f v n) (KvLock k' f' v' n') h =
    let key = text_same k k' h.0 in let flags : f' ≡ f = h.1.0 in let value = bytes_same v v' h.1.1.0 in
    let session : n' ≡ n = h.1.1.1 in
    λ i. KvLock (key i) (flags i) (value i) (session i)
command_same (KvUnlock k f v n) (KvUnlock k' f' v' n') h =
    let key = text_same k k' h.0 in let flags : f' ≡ f = h.1.0 in let value = bytes_same v v' h.1.1.0 in
    let session : n' ≡ n = h.1.1.1 in
    λ i. KvUnlock (key i) (flags i) (value i) (session i)
command_same (KvDelete k) (KvDelete k') h = ap (λ key. KvDelete key) (text_same k k' h)
command_same (KvDeleteCas k n) (KvDeleteCas k' n') h =
    let key = text_same k k' h.0 in let index : n' ≡ n = h.1 in
    λ i. KvDeleteCas (key i) (index i)
command_same (KvDeleteTree p) (KvDeleteTree p') h = ap (λ prefix. KvDeleteTree prefix) (text_same p p' h)
command_same (Txn ops) (Txn ops') h =
    let zipped = same_from_all_zip _ h.0.vec.items h.1.vec.items h.4.0 op_same in
    let same : ops' ≡ ops = sym h.3 ∙ zipped ∙ h.2 in
    ap (λ o. Txn o) same
command_same (SessionCreate d n o cs b l t) (SessionCreate d' n' o' cs' b' l' t') h =
    let id : d' ≡ d = h.0 in let name = text_same n n' h.1.0 in let node = text_same o o' h.1.1.0 in
    let checks = h.1.1.1.0 in
    let zipped = same_from_all_zip _ checks.0.vec.items checks.1.vec.items checks.4.0 text_same in
    let same_checks : cs' ≡ cs = sym checks.3 ∙ zipped ∙ checks.2 in
    let behavior : b' ≡ b = h.1.1.1.1.0 in let delay : l' ≡ l = h.1.1.1.1.1.0 in let ttl : t' ≡ t = h.1.1.1.1.1.1 in
    λ i. SessionCreate (id i) (name i) (node i) (same_checks i) (behavior i) (delay i) (ttl i)
command_same (SessionDestroy d) (SessionDestroy d') h = let id : d' ≡ d = h in ap (λ n. SessionDestroy n) id
command_same (QuerySet d c n s v p ts w) (QuerySet d' c' n' s' v' p' ts' w') h =
    let id : d' ≡ d = h.0 in let create : c' ≡ c = h.1.0 in let name = text_same n n' h.1.1.0 in
    let session : s' ≡ s = option_same (λ a b. b ≡ a) (λ a b e. e) s s' h.1.1.1.0 in
    let service = text_same v v' h.1.1.1.1.0 in let passing : p' ≡ p = h.1.1.1.1.1.0 in let tags = h.1.1.1.1.1.1.0 in
    let zipped = same_from_all_zip _ tags.0.vec.items tags.1.vec.items tags.4.0 text_same in
    let same_tags : ts' ≡ ts = sym tags.3 ∙ zipped ∙ tags.2 in let ttl : w' ≡ w = h.1.1.1.1.1.1.1 in
    λ i. QuerySet (id i) (create i) (name i) (session i) (service i) (passing i) (same_tags i) (ttl i)
command_same (QueryDelete d) (QueryDelete d') h = let id : d' ≡ d = h in ap (λ n. QueryDelete n) id
command_same Reap Reap h = refl
command_same Upgrade Upgrade h = refl
command_same x y h = absurd h

-- a copy of an entry equals it
pub entry_same : (x y : Entry) → (y.term ≡ x.term) × ((y.number ≡ x.number) × (y.command ≡ x.command)) → y ≡ x
entry_same x y h =
    let term = h.0 in let number = h.1.0 in let command = h.1.1 in
    λ i. record { term = term i; number = number i; command = command i }

-- a copy of a channel equals it
pub chan_same : (x y : Chan) → (chan.ghosts).is_clone x y → y ≡ x
chan_same c.Nodes c.Nodes h = refl
chan_same c.Services c.Services h = refl
chan_same c.Checks c.Checks h = refl
chan_same c.Sessions c.Sessions h = refl
chan_same c.Queries c.Queries h = refl
chan_same (c.Service x) (c.Service y) h = ap (λ t. c.Service t) (text_same x y h)
chan_same c.Vanished c.Vanished h = refl
chan_same (c.Node x) (c.Node y) h = ap (λ t. c.Node t) (text_same x y h)
chan_same (c.NodeChecks x) (c.NodeChecks y) h = ap (λ t. c.NodeChecks t) (text_same x y h)
chan_same c.NodeGone c.NodeGone h = refl
chan_same (c.Key x) (c.Key y) h = ap (λ t. c.Key t) (text_same x y h)
chan_same (c.Prefix x) (c.Prefix y) h = ap (λ t. c.Prefix t) (text_same x y h)
chan_same c.Reaped c.Reaped h = refl
chan_same x y h = absurd h
