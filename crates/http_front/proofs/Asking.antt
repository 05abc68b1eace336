-- Words that ask for a server ask for one.
use Rattle.std.proofs.Common.{◌≡◌, ℕ, zero, suc, ◌<◌, ◌≤◌, List, [], ◌∷◌, ◌++◌, length, map, take, drop, get_or, Option, Some, None, Ok, Bor, refl, sym, ap, subst, ◌∙◌, arith}
use Rattle.std.proofs.lemmas.List.{length-append, length-map, drop-map, take-map}
use Rattle.std.specs.Prelude.{codes, MatchOption}
use Rattle.std.specs.Option.{option_copied}
use Rattle.script_lang.specs.Numbers.{number_in}
use Rattle.http_front.specs.declared.options.Added.{Added}
use Rattle.http_front.specs.declared.options.Dns.{Dns}
use Rattle.http_front.specs.declared.options.Options.{Options}
use Rattle.http_front.specs.Options.{AreAdded, AreNumbered, AreWritten, AsksFor, IsCount, IsDns, IsUntold, Say, Writes, adding_words, numbered_words, told_words}

writes_once : (a b : List ℕ) (most m n : ℕ) → a ≡ b → Writes a most m → Writes b most n → m ≡ n
writes_once a b most m n same x y =
    let e : Ok m ≡ Ok n = sym x ∙ (ap (number_in (record { least = 1; most = most })) same ∙ y) in cc e

count_once : (most : ℕ) (a b : Option (List ℕ)) (m n : Option ℕ) → a ≡ b → IsCount most a m → IsCount most b n → m ≡ n
count_once most None None m n e x y = x ∙ sym y
count_once most None (Some w) m n e x y = absurd (cc e)
count_once most (Some v) None m n e x y = absurd (cc e)
count_once most (Some v) (Some w) m n e (k, x, p) (l, y, q) = p ∙ (ap Some (writes_once v w most k l (cc e) x y) ∙ sym q)

-- the words of a port and of its packets ask for one thing
dns_once : (a b p q k l : Option (List ℕ)) (m n : Option Dns) → p ≡ q → k ≡ l → IsDns a p k m → IsDns b q l n → m ≡ n
dns_once a b None None None None m n e f x y = x ∙ sym y
dns_once a b None None (Some k) l m n e f x y = absurd x
dns_once a b None None None (Some l) m n e f x y = absurd y
dns_once a b None (Some q) k l m n e f x y = absurd (cc e)
dns_once a b (Some p) None k l m n e f x y = absurd (cc e)
dns_once a b (Some p) (Some q) k l m n e f (d, is, port, count, more) (d', is', port', count', more') =
    let same = writes_once p q 65535 d.port d'.port (cc e) port port' in
    let packets = count_once 1000000 k l d.packets d'.packets f count count' in
    is ∙ (ap Some (λ i. record { port = same i; packets = packets i }) ∙ sym is')

-- a name that nothing tells in front of words that do not begin with another one
untold_behind : (name other : List ℕ) (a : Option (List ℕ)) (rest : List (List ℕ)) → (other ≡ name → ⊥) → IsUntold name rest → IsUntold name (told_words other a ++ rest)
untold_behind name other None rest differ untold = untold
untold_behind name other (Some v) rest differ untold = λ w more e. differ (cc e)

untold_alone : (name other : List ℕ) (a : Option (List ℕ)) → (other ≡ name → ⊥) → IsUntold name (told_words other a)
untold_alone name other None differ = λ w more e. absurd (cc e)
untold_alone name other (Some v) differ = λ w more e. differ (cc e)

told_once : (name : List ℕ) (a b : Option (List ℕ)) (x y : List (List ℕ)) → IsUntold name x → IsUntold name y → told_words name a ++ x ≡ told_words name b ++ y → (a ≡ b) × (x ≡ y)
told_once name None None x y p q e = (refl, e)
told_once name None (Some w) x y p q e = absurd (p w y e)
told_once name (Some v) None x y p q e = absurd (q v x (sym e))
told_once name (Some v) (Some w) x y p q e = (cc e, cc e)

last_once : (name : List ℕ) (a b : Option (List ℕ)) → told_words name a ≡ told_words name b → a ≡ b
last_once name None None e = refl
last_once name None (Some w) e = absurd (cc e)
last_once name (Some v) None e = absurd (cc e)
last_once name (Some v) (Some w) e = cc e

-- the words behind each name do not begin with it
behind_port : (d : Option (List ℕ)) → IsUntold (codes "--dns") (told_words (codes "--packets") d)
behind_port d = untold_alone (codes "--dns") (codes "--packets") d (λ e. cc e)

behind_folder : (c d : Option (List ℕ)) → IsUntold (codes "--keep") (told_words (codes "--dns") c ++ told_words (codes "--packets") d)
behind_folder c d = untold_behind (codes "--keep") (codes "--dns") c _ (λ e. cc e) (untold_alone (codes "--keep") (codes "--packets") d (λ e. cc e))

behind_count : (b c d : Option (List ℕ)) → IsUntold (codes "--connections") (told_words (codes "--keep") b ++ (told_words (codes "--dns") c ++ told_words (codes "--packets") d))
behind_count b c d =
    untold_behind (codes "--connections") (codes "--keep") b _ (λ e. cc e)
    (untold_behind (codes "--connections") (codes "--dns") c _ (λ e. cc e) (untold_alone (codes "--connections") (codes "--packets") d (λ e. cc e)))

record Same (a b c d a' b' c' d' : Option (List ℕ)) : Type 0 where
  pub count : a ≡ a'
  pub folder : b ≡ b'
  pub port : c ≡ c'
  pub packets : d ≡ d'

-- the words that may be left out tell one thing
added_once : (a b c d a' b' c' d' : Option (List ℕ)) → adding_words a b c d ≡ adding_words a' b' c' d' → Same a b c d a' b' c' d'
added_once a b c d a' b' c' d' e =
    let count = told_once (codes "--connections") a a' _ _ (behind_count b c d) (behind_count b' c' d') e in
    let folder = told_once (codes "--keep") b b' _ _ (behind_folder c d) (behind_folder c' d') count.1 in
    let port = told_once (codes "--dns") c c' _ _ (behind_port d) (behind_port d') folder.1 in
    record { count = count.0; folder = folder.0; port = port.0; packets = last_once (codes "--packets") d d' port.1 }

-- the words, one after the other
pub words_are : (words : List (List ℕ)) (o : Options) (x : AsksFor words o) → words ≡ numbered_words x.numbers.servers x.numbers.agents x.numbers.port ++ adding_words x.added.count o.folder x.added.port x.added.packets
words_are words o x = x.are ∙ (λ i. x.numbers.are i ++ x.added.are i)

pub asks_once : (words : List (List ℕ)) (o p : Options) → AsksFor words o → AsksFor words p → o ≡ p
asks_once words o p x y =
    let e = sym (words_are words o x) ∙ words_are words p y in
    let servers : x.numbers.servers ≡ y.numbers.servers = cc e in
    let agents : x.numbers.agents ≡ y.numbers.agents = cc e in
    let port : x.numbers.port ≡ y.numbers.port = cc e in
    let added : adding_words x.added.count o.folder x.added.port x.added.packets ≡ adding_words y.added.count p.folder y.added.port y.added.packets = cc e in
    let same = added_once x.added.count o.folder x.added.port x.added.packets y.added.count p.folder y.added.port y.added.packets added in
    let a = writes_once x.numbers.servers y.numbers.servers 7 o.servers p.servers servers x.numbers.written.servers_are y.numbers.written.servers_are in
    let b = writes_once x.numbers.agents y.numbers.agents 64 o.agents p.agents agents x.numbers.written.agents_are y.numbers.written.agents_are in
    let c = writes_once x.numbers.port y.numbers.port 65535 o.port p.port port x.numbers.written.port_is y.numbers.written.port_is in
    let d = count_once 10000 x.added.count y.added.count o.connections p.connections same.count x.added.say.counted y.added.say.counted in
    let f = same.folder in
    let n = dns_once x.added.count y.added.count x.added.port y.added.port x.added.packets y.added.packets o.dns p.dns same.port same.packets x.added.say.asked y.added.say.asked in
    λ i. record { servers = a i; agents = b i; port = c i; connections = d i; folder = f i; dns = n i }

-- and run no script
pub asks_no_script : (words : List (List ℕ)) (o : Options) → AsksFor words o → words ≡ codes "script" ∷ [] → ⊥
asks_no_script words o x e = cc (sym (words_are words o x) ∙ e)

-- a word in its place
pub nth_map : (ws : List (Bor (List ℕ))) (k : ℕ) → (get_or ws k (record { ref_ptr = (0, 0); now = [] })).now ≡ get_or (map (λ w. w.now) ws) k []
nth_map [] k = refl
nth_map (w ∷ ws) zero = refl
nth_map (w ∷ ws) (suc k) = nth_map ws k

pub word_at : (ws : List (Bor (List ℕ))) (o : Options) (k : ℕ) (x : AreNumbered (map (λ w. w.now) ws) o) →
    (get_or ws k (record { ref_ptr = (0, 0); now = [] })).now ≡ get_or (codes "serve" ∷ codes "--servers" ∷ x.servers ∷ codes "--agents" ∷ x.agents ∷ codes "--port" ∷ x.port ∷ []) k []
word_at ws o k x = nth_map ws k ∙ ap (λ (l : List (List ℕ)). get_or l k []) x.are

pub words_count : (ws : List (Bor (List ℕ))) (o : Options) → AreNumbered (map (λ w. w.now) ws) o → length ws ≡ 7
words_count ws o x = sym (length-map ws (λ (w : Bor (List ℕ)). w.now)) ∙ ap length x.are

-- seven words
seven : (vs : List (List ℕ)) → length vs ≡ 7 → vs ≡ get_or vs 0 [] ∷ get_or vs 1 [] ∷ get_or vs 2 [] ∷ get_or vs 3 [] ∷ get_or vs 4 [] ∷ get_or vs 5 [] ∷ get_or vs 6 [] ∷ []
seven [] e = absurd (omega (arith, e))
seven (a ∷ []) e = absurd (omega (arith, e))
seven (a ∷ b ∷ []) e = absurd (omega (arith, e))
seven (a ∷ b ∷ c ∷ []) e = absurd (omega (arith, e))
seven (a ∷ b ∷ c ∷ d ∷ []) e = absurd (omega (arith, e))
seven (a ∷ b ∷ c ∷ d ∷ f ∷ []) e = absurd (omega (arith, e))
seven (a ∷ b ∷ c ∷ d ∷ f ∷ g ∷ []) e = absurd (omega (arith, e))
seven (a ∷ b ∷ c ∷ d ∷ f ∷ g ∷ h ∷ []) e = refl
seven (a ∷ b ∷ c ∷ d ∷ f ∷ g ∷ h ∷ i ∷ vs) e = absurd (omega (arith, e))

abbrev Nth : List (Bor (List ℕ)) → ℕ → List ℕ
Nth ws k = (get_or ws k (record { ref_ptr = (0, 0); now = [] })).now

seven_are : (ws : List (Bor (List ℕ))) → length ws < 8 → 7 ≤ length ws → Nth ws 0 ≡ codes "serve" → Nth ws 1 ≡ codes "--servers" → Nth ws 3 ≡ codes "--agents" → Nth ws 5 ≡ codes "--port" →
    map (λ w. w.now) ws ≡ codes "serve" ∷ codes "--servers" ∷ Nth ws 2 ∷ codes "--agents" ∷ Nth ws 4 ∷ codes "--port" ∷ Nth ws 6 ∷ []
seven_are ws few many zeroth first third fifth =
    let vs : List (List ℕ) = map (λ w. w.now) ws in
    let n : length vs ≡ 7 = omega (arith, few, many, length-map ws (λ (w : Bor (List ℕ)). w.now)) in
    let e = seven vs n in
    let at0 = sym (nth_map ws 0) ∙ zeroth in
    let at1 = sym (nth_map ws 1) ∙ first in
    let at3 = sym (nth_map ws 3) ∙ third in
    let at5 = sym (nth_map ws 5) ∙ fifth in
    let at2 = sym (nth_map ws 2) in
    let at4 = sym (nth_map ws 4) in
    let at6 = sym (nth_map ws 6) in
    e ∙ (λ i. at0 i ∷ at1 i ∷ at2 i ∷ at3 i ∷ at4 i ∷ at5 i ∷ at6 i ∷ [])

pub asks_from : (ws : List (Bor (List ℕ))) (r : Option Options) → length ws < 8 → 7 ≤ length ws → Nth ws 0 ≡ codes "serve" → Nth ws 1 ≡ codes "--servers" → Nth ws 3 ≡ codes "--agents" → Nth ws 5 ≡ codes "--port" →
    MatchOption r ((o : Options) → AreWritten (Nth ws 2) (Nth ws 4) (Nth ws 6) o → ⊥) (AreWritten (Nth ws 2) (Nth ws 4) (Nth ws 6)) →
    MatchOption r ((o : Options) → AreNumbered (map (λ w. w.now) ws) o → ⊥) (AreNumbered (map (λ w. w.now) ws))
asks_from ws None few many zeroth first third fifth none = λ o x.
    let e = sym (seven_are ws few many zeroth first third fifth) ∙ x.are in
    let servers : Nth ws 2 ≡ x.servers = cc e in
    let agents : Nth ws 4 ≡ x.agents = cc e in
    let port : Nth ws 6 ≡ x.port = cc e in
    none o (subst (λ a. AreWritten a (Nth ws 4) (Nth ws 6) o) (sym servers) (subst (λ a. AreWritten x.servers a (Nth ws 6) o) (sym agents) (subst (λ a. AreWritten x.servers x.agents a o) (sym port) x.written)))
asks_from ws (Some o) few many zeroth first third fifth some = record {
  servers = Nth ws 2;
  agents = Nth ws 4;
  port = Nth ws 6;
  are = seven_are ws few many zeroth first third fifth;
  written = some;
}

-- the first seven words are the front
asks_seven : (words : List (List ℕ)) (o : Options) (x : AsksFor words o) → (take 7 words ≡ x.front) × (drop 7 words ≡ x.rest)
asks_seven words o x =
    let n = x.numbers in
    let e : words ≡ numbered_words n.servers n.agents n.port ++ x.rest = x.are ∙ ap (λ (l : List (List ℕ)). l ++ x.rest) n.are in
    (ap (take 7) e ∙ sym n.are, ap (drop 7) e)

pub asks_long : (ws : List (Bor (List ℕ))) (o : Options) → AsksFor (map (λ w. w.now) ws) o → length ws < 7 → ⊥
asks_long ws o x few =
    let vs : List (List ℕ) = map (λ w. w.now) ws in
    let same = length-map ws (λ (w : Bor (List ℕ)). w.now) in
    let n = x.numbers in
    let parts = ap length x.are ∙ length-append x.front x.rest in
    let many = ap length n.are in
    omega (arith, few, same, parts, many)

front_asked : (ws : List (Bor (List ℕ))) (o : Options) → AsksFor (map (λ w. w.now) ws) o → AreNumbered (map (λ w. w.now) (take 7 ws)) o
front_asked ws o x = subst (λ l. AreNumbered l o) (sym (asks_seven (map (λ w. w.now) ws) o x).0 ∙ take-map (λ (w : Bor (List ℕ)). w.now) 7 ws) x.numbers

pub rest_asked : (ws : List (Bor (List ℕ))) (o : Options) → AsksFor (map (λ w. w.now) ws) o → AreAdded (map (λ w. w.now) (drop 7 ws)) o.connections o.folder o.dns
rest_asked ws o x = subst (λ l. AreAdded l o.connections o.folder o.dns) (sym (asks_seven (map (λ w. w.now) ws) o x).1 ∙ drop-map (λ (w : Bor (List ℕ)). w.now) 7 ws) x.added

-- parts of words that ask for nothing
module _ (ws front rest : List (Bor (List ℕ))) (f : front ≡ take 7 ws) (b : rest ≡ drop 7 ws) where
  pub front_asks_none : ((o : Options) → AreNumbered (map (λ w. w.now) front) o → ⊥) → (o : Options) → AsksFor (map (λ w. w.now) ws) o → ⊥
  front_asks_none none o x = none o (subst (λ (l : List (Bor (List ℕ))). AreNumbered (map (λ w. w.now) l) o) (sym f) (front_asked ws o x))

  pub rest_adds_none : ((connections : Option ℕ) (folder : Option (List ℕ)) (dns : Option Dns) → AreAdded (map (λ w. w.now) rest) connections folder dns → ⊥) → (o : Options) → AsksFor (map (λ w. w.now) ws) o → ⊥
  rest_adds_none none o x = none o.connections o.folder o.dns (subst (λ (l : List (Bor (List ℕ))). AreAdded (map (λ w. w.now) l) o.connections o.folder o.dns) (sym b) (rest_asked ws o x))

-- what a name tells, once it is looked for
looked_for : (name : List ℕ) (a b : Option (List ℕ)) (words x y : List (List ℕ)) → words ≡ told_words name a ++ x → (a ≡ None → IsUntold name words) → words ≡ told_words name b ++ y → IsUntold name y → x ≡ y
looked_for name None None words x y e untold f behind = sym e ∙ f
looked_for name None (Some w) words x y e untold f behind = absurd (untold refl w y f)
looked_for name (Some v) None words x y e untold f behind = absurd (behind v x (sym f ∙ e))
looked_for name (Some v) (Some w) words x y e untold f behind = cc (sym e ∙ f)

last_looked_for : (name : List ℕ) (a b : Option (List ℕ)) (words x : List (List ℕ)) → words ≡ told_words name a ++ x → (a ≡ None → IsUntold name words) → words ≡ told_words name b → x ≡ []
last_looked_for name None None words x e untold f = sym e ∙ f
last_looked_for name None (Some w) words x e untold f = absurd (untold refl w [] f)
last_looked_for name (Some v) None words x e untold f = absurd (cc (sym f ∙ e))
last_looked_for name (Some v) (Some w) words x e untold f = cc (sym e ∙ f)

-- the words behind each name, one after the other
module _ (words behind_a behind_b behind_c behind_d : List (List ℕ)) (a b c d : Option (List ℕ))
    (e : words ≡ told_words (codes "--connections") a ++ behind_a) (f : behind_a ≡ told_words (codes "--keep") b ++ behind_b)
    (g : behind_b ≡ told_words (codes "--dns") c ++ behind_c) (h : behind_c ≡ told_words (codes "--packets") d ++ behind_d) where
  pub adds_more : (a ≡ None → IsUntold (codes "--connections") words) → (b ≡ None → IsUntold (codes "--keep") behind_a) → (c ≡ None → IsUntold (codes "--dns") behind_b) → (d ≡ None → IsUntold (codes "--packets") behind_c) →
      (behind_d ≡ [] → ⊥) → (count folder port packets : Option (List ℕ)) → words ≡ adding_words count folder port packets → ⊥
  adds_more p q r s some count folder port packets are =
      let x = looked_for (codes "--connections") a count words behind_a _ e p are (behind_count folder port packets) in
      let y = looked_for (codes "--keep") b folder behind_a behind_b _ f q x (behind_folder port packets) in
      let z = looked_for (codes "--dns") c port behind_b behind_c _ g r y (behind_port packets) in
      some (last_looked_for (codes "--packets") d packets behind_c behind_d h s z)

-- words that say nothing
pub adds_none : (words : List (List ℕ)) (a b c d : Option (List ℕ)) → words ≡ adding_words a b c d → ((connections : Option ℕ) (dns : Option Dns) → Say a b c d connections dns → ⊥) →
    (connections : Option ℕ) (folder : Option (List ℕ)) (dns : Option Dns) → AreAdded words connections folder dns → ⊥
adds_none words a b c d are none connections folder dns x =
    let same = added_once x.count folder x.port x.packets a b c d (sym x.are ∙ are) in
    let first = subst (λ (z : Option (List ℕ)). Say z folder x.port x.packets connections dns) same.count x.say in
    let second = subst (λ (z : Option (List ℕ)). Say a z x.port x.packets connections dns) same.folder first in
    let third = subst (λ (z : Option (List ℕ)). Say a b z x.packets connections dns) same.port second in
    let say = subst (λ (z : Option (List ℕ)). Say a b c z connections dns) same.packets third in
    none connections dns say

-- what the words say is added, or they say nothing
pub added_from : (words : List (List ℕ)) (a b c d : Option (List ℕ)) (r : Option Added) → words ≡ adding_words a b c d →
    MatchOption r ((connections : Option ℕ) (dns : Option Dns) → Say a b c d connections dns → ⊥) (λ added. Say a b c d added.connections added.dns × (added.folder ≡ b)) →
    MatchOption r ((connections : Option ℕ) (folder : Option (List ℕ)) (dns : Option Dns) → AreAdded words connections folder dns → ⊥) (λ added. AreAdded words added.connections added.folder added.dns)
added_from words a b c d None are none = adds_none words a b c d are none
added_from words a b c d (Some added) are (say, named) = record {
  count = a;
  port = c;
  packets = d;
  are = subst (λ (z : Option (List ℕ)). words ≡ adding_words a z c d) (sym named) are;
  say = subst (λ (z : Option (List ℕ)). Say a z c d added.connections added.dns) (sym named) say;
}

-- words of which none are left
pub map_none : (ws : List (Bor (List ℕ))) → map (λ w. w.now) ws ≡ [] → ws ≡ []
map_none [] e = refl
map_none (w ∷ ws) e = absurd (cc e)

-- a word that is told
pub none_copied : (r : Option (Bor (List ℕ))) → option_copied r ≡ None → r ≡ None
none_copied None e = refl
none_copied (Some w) e = absurd (cc e)
