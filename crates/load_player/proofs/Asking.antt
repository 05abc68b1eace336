-- Words that ask for a load ask for one.
use Rattle.std.proofs.Common.{◌≡◌, ℕ, zero, suc, ◌<◌, ◌≤◌, List, [], ◌∷◌, length, map, get_or, Option, Some, None, Ok, Bor, refl, sym, ap, subst, ◌∙◌, arith}
use Rattle.std.proofs.lemmas.List.{length-map}
use Rattle.std.specs.Prelude.{codes, MatchOption}
use Rattle.script_lang.specs.declared.numbers.Bounds.{Bounds}
use Rattle.script_lang.specs.Lines.{any64, between}
use Rattle.script_lang.specs.Numbers.{number_in}
use Rattle.load_player.specs.declared.load.Load.{Load}
use Rattle.load_player.specs.Load.{AreWritten, AsksForLoad}

read_once : (bounds : Bounds) (a b : List ℕ) (m n : ℕ) → a ≡ b → number_in bounds a ≡ Ok m → number_in bounds b ≡ Ok n → m ≡ n
read_once bounds a b m n same x y =
    let e : Ok m ≡ Ok n = sym x ∙ (ap (number_in bounds) same ∙ y) in cc e

pub asks_load_once : (words : List (List ℕ)) (l m : Load) → AsksForLoad words l → AsksForLoad words m → l ≡ m
asks_load_once words l m x y =
    let e = sym x.are ∙ y.are in
    let seed : x.seed ≡ y.seed = cc e in
    let size : x.size ≡ y.size = cc e in
    let a = read_once any64 x.seed y.seed l.seed m.seed seed x.written.seed_is y.written.seed_is in
    let b = read_once (between 1 100000) x.size y.size l.size m.size size x.written.size_is y.written.size_is in
    λ i. record { seed = a i; size = b i }

-- they run no script
pub asks_load_no_script : (words : List (List ℕ)) (l : Load) → AsksForLoad words l → words ≡ codes "script" ∷ [] → ⊥
asks_load_no_script words l x e = cc (sym x.are ∙ e)

-- a word in its place
nth_map : (ws : List (Bor (List ℕ))) (k : ℕ) → (get_or ws k (record { ref_ptr = (0, 0); now = [] })).now ≡ get_or (map (λ w. w.now) ws) k []
nth_map [] k = refl
nth_map (w ∷ ws) zero = refl
nth_map (w ∷ ws) (suc k) = nth_map ws k

pub word_at : (ws : List (Bor (List ℕ))) (l : Load) (k : ℕ) (x : AsksForLoad (map (λ w. w.now) ws) l) →
    (get_or ws k (record { ref_ptr = (0, 0); now = [] })).now ≡ get_or (codes "load" ∷ x.seed ∷ x.size ∷ []) k []
word_at ws l k x = nth_map ws k ∙ ap (λ (vs : List (List ℕ)). get_or vs k []) x.are

pub words_count : (ws : List (Bor (List ℕ))) (l : Load) → AsksForLoad (map (λ w. w.now) ws) l → length ws ≡ 3
words_count ws l x = sym (length-map ws (λ (w : Bor (List ℕ)). w.now)) ∙ ap length x.are

three : (vs : List (List ℕ)) → length vs ≡ 3 → vs ≡ get_or vs 0 [] ∷ get_or vs 1 [] ∷ get_or vs 2 [] ∷ []
three [] e = absurd (omega (arith, e))
three (a ∷ []) e = absurd (omega (arith, e))
three (a ∷ b ∷ []) e = absurd (omega (arith, e))
three (a ∷ b ∷ c ∷ []) e = refl
three (a ∷ b ∷ c ∷ d ∷ vs) e = absurd (omega (arith, e))

abbrev Nth : List (Bor (List ℕ)) → ℕ → List ℕ
Nth ws k = (get_or ws k (record { ref_ptr = (0, 0); now = [] })).now

words_are : (ws : List (Bor (List ℕ))) → length ws < 4 → 3 ≤ length ws → Nth ws 0 ≡ codes "load" → map (λ w. w.now) ws ≡ codes "load" ∷ Nth ws 1 ∷ Nth ws 2 ∷ []
words_are ws few many zeroth =
    let vs : List (List ℕ) = map (λ w. w.now) ws in
    let n : length vs ≡ 3 = omega (arith, few, many, length-map ws (λ (w : Bor (List ℕ)). w.now)) in
    let at0 = sym (nth_map ws 0) ∙ zeroth in
    let at1 = sym (nth_map ws 1) in
    let at2 = sym (nth_map ws 2) in
    three vs n ∙ (λ i. at0 i ∷ at1 i ∷ at2 i ∷ [])

pub asks_from : (ws : List (Bor (List ℕ))) (r : Option Load) → length ws < 4 → 3 ≤ length ws → Nth ws 0 ≡ codes "load" →
    MatchOption r ((l : Load) → AreWritten (Nth ws 1) (Nth ws 2) l → ⊥) (AreWritten (Nth ws 1) (Nth ws 2)) →
    MatchOption r ((l : Load) → AsksForLoad (map (λ w. w.now) ws) l → ⊥) (AsksForLoad (map (λ w. w.now) ws))
asks_from ws None few many zeroth none = λ l x.
    let e = sym (words_are ws few many zeroth) ∙ x.are in
    let seed : Nth ws 1 ≡ x.seed = cc e in
    let size : Nth ws 2 ≡ x.size = cc e in
    none l (subst (λ a. AreWritten a (Nth ws 2) l) (sym seed) (subst (λ a. AreWritten x.seed a l) (sym size) x.written))
asks_from ws (Some l) few many zeroth some = record {
  seed = Nth ws 1;
  size = Nth ws 2;
  are = words_are ws few many zeroth;
  written = some;
}
