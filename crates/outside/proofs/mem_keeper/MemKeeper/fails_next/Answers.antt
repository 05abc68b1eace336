use Rattle.std.proofs.Common.{◌≡◌, ℕ, ◌==◌, Bool, true, List, [], ◌∷◌, length, false, refl, sym, subst, arith}
use Rattle.std.proofs.lemmas.Bool.Decides.{nat_tests}
use Rattle.outside.specs.InMemory.{is_listed}
use Rattle.outside.specs.KeepersInMemory.{FaultyKeeper, is_sure}
use Rattle.outside.proofs.mem_keeper.MemKeeper.fails_next.Goals as goal

-- no call is listed where none is to fail
none_listed : (failing : List ℕ) (call : ℕ) (listed : Bool) → (length failing == 0) ≡ true → listed ≡ is_listed failing call → listed ≡ true → ⊥
unfolding is_listed
none_listed [] call listed sure is called = let none : is_listed [] call ≡ false = refl in cc (none, is, called)
none_listed (one ∷ others) call listed sure is called = grind (arith, nat_tests)

pub returns-else-is_armed-clause-sure : goal.returns-else-is_armed-clause-sure
returns-else-is_armed-clause-sure c = λ sure called.
    absurd (none_listed c.self.inside.failing _ c.is_listed.result (subst (λ (k : FaultyKeeper). is_sure k ≡ true) (sym c.self.view_is) sure) c.is_listed.ensures called)
