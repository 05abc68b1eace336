-- The list of a channel that a fired one reaches.
use Rattle.std.proofs.Common.{◌≡◌, ℕ, ◌≤◌, ◌⊎◌, inl, inr, true, List, [], ◌∷◌, ◌++◌, refl, sym, ap, length, take, arith}
use Rattle.std.proofs.lemmas.List.{length-take}
use Rattle.std.specs.List.{fold}
use Rattle.cat_model.specs.Reach.{reaches}
use Rattle.cat_model.specs.Channels.{Reaches}
use Rattle.cat_model.specs.Keys.{has_prefix}
use Rattle.cat_model.specs.declared.query.Chan.{Chan}
use Rattle.cat_model.specs.declared.query.Chan.TheVariants.{Nodes, Services, Checks, Sessions, Queries, Service, Vanished, Node, NodeChecks, NodeGone, Key, Prefix, Reaped}
use Rattle.cat_model.proofs.Reaching.{reach_law}
use Rattle.cat_model.proofs.SameLemmas.{text_decides}
use Rattle.read_watch.specs.Buckets.{mixed, bucket_of}

-- a prefix of a key is what the key has up to the prefix's length
prefix_is : (prefix key : List ℕ) → has_prefix prefix key ≡ true → prefix ≡ take (length prefix) key
prefix_is prefix key h = (text_decides prefix (take (length prefix) key)).0 h

-- the list of a channel that a key reaches is the key's or that of one of its prefixes
pub key_bucket : (key : List ℕ) (c : Chan) → reaches (Key key) c ≡ true → (bucket_of c ≡ bucket_of (Key key)) ⊎ ((n : ℕ) × ((n ≤ length key) × (bucket_of c ≡ fold mixed 9 (take n key))))
key_bucket key c h = go c ((reach_law (Key key) c).0 h)
  where
    same : (d : Chan) → Key key ≡ d → (bucket_of d ≡ bucket_of (Key key)) ⊎ ((n : ℕ) × ((n ≤ length key) × (bucket_of d ≡ fold mixed 9 (take n key))))
    same d e = inl (ap bucket_of (sym e))

    go : (d : Chan) → Reaches (Key key) d → (bucket_of d ≡ bucket_of (Key key)) ⊎ ((n : ℕ) × ((n ≤ length key) × (bucket_of d ≡ fold mixed 9 (take n key))))
    go Nodes r = same Nodes r
    go Services r = same Services r
    go Checks r = same Checks r
    go Sessions r = same Sessions r
    go Queries r = same Queries r
    go (Service name) r = same (Service name) r
    go Vanished r = same Vanished r
    go (Node node) r = same (Node node) r
    go (NodeChecks node) r = same (NodeChecks node) r
    go NodeGone r = same NodeGone r
    go (Key other) r = same (Key other) r
    go (Prefix prefix) r = let e : prefix ≡ take (length prefix) key = prefix_is prefix key r in inr (length prefix, (omega (arith, ap length e, length-take (length prefix) key), ap (fold mixed 9) e))
    go Reaped r = same Reaped r

-- a channel that is no key reaches itself alone
pub only_itself : (f c : Chan) → ((key : List ℕ) → f ≡ Key key → ⊥) → reaches f c ≡ true → f ≡ c
only_itself Nodes c n h = (reach_law Nodes c).0 h
only_itself Services c n h = (reach_law Services c).0 h
only_itself Checks c n h = (reach_law Checks c).0 h
only_itself Sessions c n h = (reach_law Sessions c).0 h
only_itself Queries c n h = (reach_law Queries c).0 h
only_itself (Service name) c n h = (reach_law (Service name) c).0 h
only_itself Vanished c n h = (reach_law Vanished c).0 h
only_itself (Node node) c n h = (reach_law (Node node) c).0 h
only_itself (NodeChecks node) c n h = (reach_law (NodeChecks node) c).0 h
only_itself NodeGone c n h = (reach_law NodeGone c).0 h
only_itself (Key key) c n h = absurd (n key refl)
only_itself (Prefix prefix) c n h = (reach_law (Prefix prefix) c).0 h
only_itself Reaped c n h = (reach_law Reaped c).0 h

pub fold_push : (start byte : ℕ) (bytes : List ℕ) → fold mixed start (bytes ++ byte ∷ []) ≡ mixed (fold mixed start bytes) byte
fold_push start byte [] = refl
fold_push start byte (b ∷ bytes) = fold_push (mixed start b) byte bytes
