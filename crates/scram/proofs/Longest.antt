-- Of the rows behind the decisions one list goes on from all others: the longest. It gives the single controller's row for each period.
-- Assumes nothing.
use mathlib.Core.Path.{◌≡◌, refl, ◌∙◌}
use mathlib.Core.Logic.{◌⊎◌, inl, inr}
use mathlib.Core.List.{List, [], ◌∷◌}
use Prim.Native.Nat.{ℕ, suc, ◌+◌, ◌≤◌, ◌<◌}
use native.Mathlib.Omega.{arith}
use lib.ListN.{length}
use lib.Dec.{eqb, eqb→eq}
use Rattle.lists.specs.Choice.{pick}
use Rattle.lists.proofs.Choice.{pick-ok}
use Rattle.lists.proofs.Booleans.{eqb_no}
use Rattle.scram.specs.Held.{Law, Group, Held}
use Rattle.scram.specs.History.{In}
use Rattle.scram.proofs.Rows.{Begins, all, then, begins-trans, begins-length, begins-nil, le-or-lt}
use Rattle.scram.proofs.Facts.{Facts, EachFed, Chosen, Consistent, agree}
use Rattle.scram.proofs.Growth.{or_map}
use Rattle.scram.proofs.Ties.{Made, DecisionTells}

-- the row of period k in a list of rows
unfoldable pub row_at : {Row : Type 0} → Row → List Row → ℕ → Row
row_at d [] k = d
row_at d (y ∷ l) k = pick (eqb k (suc (length l))) y (row_at d l k)

module _ {Row : Type 0} (d : Row) where
  pub row_last : (y : Row) (l : List Row) → row_at d (y ∷ l) (suc (length l)) ≡ y
  unfolding row_at
  row_last y l =
      pick-ok (λ r. r ≡ y) (eqb (suc (length l)) (suc (length l))) y (row_at d l (suc (length l))) (λ t. refl)
      (λ t. absurd (eqb_no (suc (length l)) (suc (length l)) t refl))

  pub row-earlier : (y : Row) (l : List Row) (k : ℕ) → k ≤ length l → row_at d (y ∷ l) k ≡ row_at d l k
  unfolding row_at
  row-earlier y l k h =
      pick-ok (λ r. r ≡ row_at d l k) (eqb k (suc (length l))) y (row_at d l k) (λ t. let e = eqb→eq k (suc (length l)) t in absurd (omega arith)) (λ t. refl)

  pub row-begins : {l m : List Row} → Begins l m → (k : ℕ) → k ≤ length l → row_at d m k ≡ row_at d l k
  row-begins all k h = refl
  row-begins (then {m} y q) k h = row-earlier y m k (let z = begins-length q in omega arith) ∙ row-begins q k h

  pub row-fed : (fed : ℕ → Row → Type 0) (l : List Row) → EachFed fed l → (k : ℕ) → 1 ≤ k → k ≤ length l → fed k (row_at d l k)
  row-fed fed [] f k p h = absurd (omega arith)
  row-fed fed (y ∷ l) f k p h = go (row-fed fed l f.1 k p) (le-or-lt k (length l))
    where
      go : (k ≤ length l → fed k (row_at d l k)) → (k ≤ length l) ⊎ (length l < k) → fed k (row_at d (y ∷ l) k)
      go ih (inl q) = rw (row-earlier y l k q) (ih q)
      go ih (inr q) = let e : k ≡ suc (length l) = omega arith in rw (e, row_last y l) f.0

module _ {State Readings Values Decision : Type 0} (law : Law State Readings Values) (group : Group) (fed : ℕ → Readings → Type 0)
    (held : Decision → Held State Readings) where
  -- rows behind one of the decisions, chosen for its period
  abbrev pub Behind : Facts Readings → List Decision → List Readings → Type 0
  Behind f ds l = (d : Decision) × (v : ℕ) × In d ds × f.proposed v (held d).period l × Chosen f group v (held d).period l

  -- rows that a decision's estimate was made from, a beginning of others
  abbrev pub Served : List Readings → Decision → Type 0
  Served rows d = (l : List Readings) × Begins l rows × (length l ≡ (held d).period) × (1 ≤ (held d).period) × Made law l (held d).estimate

  pub record Longest (f : Facts Readings) (ds : List Decision) : Type 0 where
    pub rows : List Readings
    pub behind : (rows ≡ []) ⊎ Behind f ds rows
    pub serves : (d : Decision) → In d ds → Served rows d

  module _ (quorums : group.size < group.to_decide + group.to_propose) (f : Facts Readings) (ok : Consistent f group fed) where
    pub longest : (ds : List Decision) → ((d : Decision) → In d ds → DecisionTells law group fed f (held d)) → Longest f ds
    longest [] told = record { rows = []; behind = inl refl; serves = λ d p. absurd p }
    longest (d ∷ ds) told = go (told d (inl refl)) (longest ds (λ d' p. told d' (inr p)))
      where
        serve : (rows : List Readings) (v : ℕ) (l : List Readings) → f.proposed v (held d).period l → Made law l (held d).estimate → Begins l rows
            → ((d' : Decision) → In d' ds → Served rows d') → (d' : Decision) → (d' ≡ d) ⊎ In d' ds → Served rows d'
        serve rows v l p m s others d' (inl q) = let r = ok.rows v (held d).period l p in rw q (l, s, r.0.0, r.1, m)
        serve rows v l p m s others d' (inr q) = others d' q

        join : (t : Longest f ds) (v : ℕ) (l : List Readings) → f.proposed v (held d).period l → Chosen f group v (held d).period l
            → Made law l (held d).estimate → Begins t.rows l ⊎ Begins l t.rows → Longest f (d ∷ ds)
        join t v l p c m (inl s) = record {
          rows = l;
          behind = inr (d, v, inl refl, p, c);
          serves = serve l v l p m all (λ d' q. let (l', s', a, b, m') = t.serves d' q in (l', begins-trans s' s, a, b, m'));
        }
        join t v l p c m (inr s) = record {
          rows = t.rows;
          behind = or_map (λ r. let (d', v', i', p', c') = r in (d', v', inr i', p', c')) t.behind;
          serves = serve t.rows v l p m s t.serves;
        }

        go : DecisionTells law group fed f (held d) → Longest f ds → Longest f (d ∷ ds)
        go (v, l, p, c, m) t = join t v l p c m (compare t.behind)
          where
            compare : (t.rows ≡ []) ⊎ Behind f ds t.rows → Begins t.rows l ⊎ Begins l t.rows
            compare (inl z) = inl (rw z (begins-nil l))
            compare (inr (d', v', _, p', c')) = agree f group fed quorums ok v' (held d').period v (held d).period t.rows l c' p' c p
