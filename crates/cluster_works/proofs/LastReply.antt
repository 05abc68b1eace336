-- The last reply of a server is that to the entry that it applied last.
use Rattle.std.proofs.Common.{◌≡◌, ℕ, zero, suc, ◌-◌, ◌<◌, [], ◌∷◌, ◌++◌, length, take, Option, Some, None, refl, sym, ap, ◌∙◌, arith}
use Rattle.std.proofs.lemmas.List.{map-append, take_all}
use Rattle.cat_model.specs.declared.applied.Applied.{Applied}
use Rattle.cat_model.specs.declared.command.Entry.{Entry}
use Rattle.cat_model.specs.declared.reply.Kind.TheVariants.{Acked}
use Rattle.cat_model.specs.Log.{commands_of}
use Rattle.cat_model.specs.Machine.{reply_to}
use Rattle.raft_model.specs.Log.{Log, entry_at}
use Rattle.applied_state.specs.States.{last_reply}
use Rattle.applied_state.proofs.Replying.{last_is}
use Rattle.cluster_rules.specs.Replies.{Content, Question, Tells, shown, shown_entry, shown_write}
use Rattle.cluster_rules.proofs.Entries.{take_next}

reply_last : (log : Log) (k : ℕ) (e : Entry) → length log ≡ suc k → entry_at (suc k) log ≡ Some e → last_reply (commands_of log) ≡ Some (reply_to (commands_of (take k log)) e.command)
reply_last log k e size there =
    let whole : log ≡ take k log ++ e ∷ [] = sym (take_all (suc k) log (omega (arith, size))) ∙ take_next k log e there in
    ap (λ (l : Log). last_reply (commands_of l)) whole
    ∙ ap last_reply (map-append (λ (x : Entry). x.command) (take k log) (e ∷ []))
    ∙ last_is (commands_of (take k log)) e.command

reply_at : (log : Log) (index : ℕ) (e : Entry) → 0 < index → length log ≡ index → entry_at index log ≡ Some e → last_reply (commands_of log) ≡ Some (reply_to (commands_of (take (index - 1) log)) e.command)
reply_at log zero e some size there = absurd (omega (arith, some))
reply_at log (suc k) e some size there =
    let one : suc k - 1 ≡ k = omega arith in
    reply_last log k e size there ∙ ap (λ n. Some (reply_to (commands_of (take n log)) e.command)) (sym one)

some_is : {A : Type 0} (x y : A) → Some x ≡ Some y → x ≡ y
some_is x y e = cc e

-- the last entry, which is there, was answered last
last_answered : (log : Log) (n : ℕ) (e : Entry) → length log ≡ n → Some e ≡ entry_at n log → last_reply (commands_of log) ≡ Some (reply_to (commands_of (take (n - 1) log)) e.command)
last_answered log zero e size there = absurd (cc there)
last_answered log (suc k) e size there = reply_at log (suc k) e (omega arith) size (sym there)

-- what the last entry shows
pub told_last : (log : Log) (last : ℕ) (e : Entry) (applied : Applied) → last ≡ length log → Some e ≡ entry_at last log → Some applied ≡ last_reply (commands_of log)
    → Tells e.command applied ≡ shown_entry (entry_at (length log) log) (length log) log
told_last log last e applied at there told =
    let here : Some e ≡ entry_at (length log) log = there ∙ ap (λ k. entry_at k log) at in
    let answer : applied ≡ reply_to (commands_of (take (length log - 1) log)) e.command = some_is applied _ (told ∙ last_answered log (length log) e refl here) in
    ap (Tells e.command) answer ∙ ap (λ (o : Option Entry). shown_entry o (length log) log) here

-- there is a last reply where there is a last entry
pub some_told : (log : Log) (last : ℕ) (e : Entry) → last ≡ length log → Some e ≡ entry_at last log → None ≡ last_reply (commands_of log) → ⊥
some_told log last e at there none = cc (last_answered log last e (sym at) there, none)

-- what a request shows whose position was applied last
pub acked_shown : (q : Question) (position : ℕ) (log : Log) (content : Content) → position ≡ length log → content ≡ shown_write q.asked (length log) log → content ≡ shown q (Acked position) log
unfolding shown
acked_shown q position log content at e = e ∙ ap (λ k. shown_write q.asked k log) (sym at)
