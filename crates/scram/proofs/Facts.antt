-- What a history leaves behind, as facts with no order in time: who proposed, accepted and estimated what. If a quorum accepted rows in a
-- view and a period, whatever is proposed at or above them goes on from those rows. Assumes nothing.
use mathlib.Core.Path.{◌≡◌}
use mathlib.Core.Logic.{◌⊎◌, inl, inr}
use mathlib.Core.Bool.{Bool}
use mathlib.Core.List.{List, [], ◌∷◌}
use Prim.Native.Nat.{ℕ, zero, suc, ◌+◌, ◌≤◌, ◌<◌}
use native.Mathlib.Omega.{arith}
use lib.ListN.{length}
use lib.Dec.{T}
use Rattle.scram.specs.Quorum.{count}
use Rattle.scram.specs.Held.{Group}
use Rattle.scram.proofs.Boxes.{meet}
use Rattle.scram.proofs.Rows.{Begins, begins-trans, AtMost, at-most-trans, at-most-total}

-- proposed: view, period, rows. accepted: box, view, period, rows (proposed by that box, or adopted). estimated: box, view, period, base
-- view, base period, rows: what the box held as it entered the view
pub record Facts (Row : Type 0) : Type 1 where
  pub proposed : ℕ → ℕ → List Row → Type 0
  pub accepted : ℕ → ℕ → ℕ → List Row → Type 0
  pub estimated : ℕ → ℕ → ℕ → ℕ → ℕ → List Row → Type 0

-- each row was fed in its period: handed to some box by its tick of that number
abbrev pub EachFed : {Row : Type 0} → (ℕ → Row → Type 0) → List Row → Type 0
EachFed fed [] = Unit {0}
EachFed fed (y ∷ l) = fed (suc (length l)) y × EachFed fed l

-- rows of the periods 1 to k
abbrev pub RowsTo : {Row : Type 0} → (ℕ → Row → Type 0) → ℕ → List Row → Type 0
RowsTo fed k l = (length l ≡ k) × EachFed fed l

module _ {Row : Type 0} (facts : Facts Row) where
  -- rows with a base: nothing was accepted so far, or they go on from what was proposed there
  abbrev pub Based : ℕ → ℕ → List Row → Type 0
  Based v k l = ((v ≡ 0) × (k ≡ 0)) ⊎ ((m : List Row) × facts.proposed v k m × Begins m l)

  -- box i gave an estimate of view v in period k, with a base at or below this one
  abbrev pub Gave : ℕ → ℕ → ℕ → ℕ → ℕ → Type 0
  Gave i v k base_view base_period = (a b : ℕ) × (m : List Row) × facts.estimated i v k a b m × AtMost a b base_view base_period

  module _ (group : Group) where
    -- view v was opened for the rows l of period k: in one period not above k enough boxes gave estimates of that view, and l goes on
    -- from one whose base is the largest of them
    pub record Opened (v k : ℕ) (l : List Row) : Type 0 where
      pub who : ℕ → Bool
      pub enough : group.to_propose ≤ count who group.size
      pub period : ℕ
      pub base_view : ℕ
      pub base_period : ℕ
      pub box : ℕ
      pub best : List Row
      pub given : facts.estimated box v period base_view base_period best
      pub others : (i : ℕ) → T (who i) → Gave i v period base_view base_period
      pub early : period ≤ k
      pub goes_on : Begins best l

    -- enough boxes accepted the rows l in view v and period k
    abbrev pub Chosen : ℕ → ℕ → List Row → Type 0
    Chosen v k l = (who : ℕ → Bool) × (group.to_decide ≤ count who group.size) × ((i : ℕ) → T (who i) → facts.accepted i v k l)

    module _ (fed : ℕ → Row → Type 0) where
      -- what always holds of the facts
      pub record Consistent : Type 0 where
        -- proposed rows reach to their period, and were fed
        pub rows : (v k : ℕ) (l : List Row) → facts.proposed v k l → RowsTo fed k l × (1 ≤ k)
        -- one view is one growing list
        pub grows : (v k j : ℕ) (l m : List Row) → facts.proposed v k l → facts.proposed v j m → k ≤ j → Begins l m
        -- a view above 0 was opened before anything was proposed in it
        pub opened : (v k : ℕ) (l : List Row) → facts.proposed v k l → (v ≡ 0) ⊎ Opened v k l
        -- what was accepted was proposed
        pub offered : (i v k : ℕ) (l : List Row) → facts.accepted i v k l → facts.proposed v k l
        -- an estimate's rows reach to its period and go on from its base, which is below its view
        pub based : (i v k a b : ℕ) (l : List Row) → facts.estimated i v k a b l → RowsTo fed k l × Based a b l × (a < v)
        -- a box that accepted something and later entered a higher view did so not before that period, with a base at or above it
        pub ordered : (i v k w j a b : ℕ) (l m : List Row) → facts.accepted i v k l → facts.estimated i w j a b m → v < w
            → (k ≤ j) × AtMost v k a b

      module _ (quorums : group.size < group.to_decide + group.to_propose) (ok : Consistent) where
        -- the best estimate that opened a view has a base at or above whatever was chosen in a lower view: the two quorums share a box
        best-above : (v₀ k₀ : ℕ) (l₀ : List Row) → Chosen v₀ k₀ l₀ → (v k : ℕ) (l : List Row) → v₀ < v → (o : Opened v k l)
            → (k₀ ≤ o.period) × AtMost v₀ k₀ o.base_view o.base_period
        best-above v₀ k₀ l₀ c v k l x o = share (meet c.0 o.who group.size (let h₁ = c.1 in let h₂ = o.enough in omega arith))
          where
            share : (i : ℕ) × T (c.0 i) × T (o.who i) → (k₀ ≤ o.period) × AtMost v₀ k₀ o.base_view o.base_period
            share (i, ci, oi) =
                let (a, b, m, e, le) = o.others i oi in
                let ord = ok.ordered i v₀ k₀ v o.period a b l₀ m (c.2 i ci) e x in
                (ord.0, at-most-trans ord.1 le)

        -- whatever is proposed at or above what was chosen goes on from it: by the views, of which there are fewer than `bound`
        safe : (bound v₀ k₀ : ℕ) (l₀ : List Row) → Chosen v₀ k₀ l₀ → facts.proposed v₀ k₀ l₀ → (v k : ℕ) (l : List Row) → v < bound
            → facts.proposed v k l → AtMost v₀ k₀ v k → (k₀ ≤ k) × Begins l₀ l
        safe zero v₀ k₀ l₀ c p₀ v k l h p x = absurd (omega arith)
        safe (suc bound) v₀ k₀ l₀ c p₀ v k l h p (inr x) = (x.1, ok.grows v k₀ k l₀ l (rw (← x.0) p₀) p x.1)
        safe (suc bound) v₀ k₀ l₀ c p₀ v k l h p (inl x) = go (safe bound v₀ k₀ l₀ c p₀) (ok.opened v k l p)
          where
            from : (below : (v k : ℕ) (l : List Row) → v < bound → facts.proposed v k l → AtMost v₀ k₀ v k → (k₀ ≤ k) × Begins l₀ l)
                (o : Opened v k l) → (k₀ ≤ o.period) × AtMost v₀ k₀ o.base_view o.base_period → o.base_view < v
                → Based o.base_view o.base_period o.best → Begins l₀ o.best
            from below o (h₁, inl h₂) h₃ (inl z) = absurd (omega arith)
            from below o (h₁, inr h₂) h₃ (inl z) = let h₄ = (ok.rows v₀ k₀ l₀ p₀).1 in absurd (omega arith)
            from below o h₁ h₃ (inr (m, q, s)) = begins-trans (below o.base_view o.base_period m (omega arith) q h₁.1).1 s

            go : (below : (v k : ℕ) (l : List Row) → v < bound → facts.proposed v k l → AtMost v₀ k₀ v k → (k₀ ≤ k) × Begins l₀ l)
                → (v ≡ 0) ⊎ Opened v k l → (k₀ ≤ k) × Begins l₀ l
            go below (inl e) = absurd (omega arith)
            go below (inr o) =
                let above = best-above v₀ k₀ l₀ c v k l x o in
                let e = ok.based o.box v o.period o.base_view o.base_period o.best o.given in
                (let h₁ = above.0 in let h₂ = o.early in omega arith, begins-trans (from below o above e.2 e.1) o.goes_on)

        -- of two lists of rows that were chosen one is a beginning of the other
        pub agree : (v k w j : ℕ) (l m : List Row) → Chosen v k l → facts.proposed v k l → Chosen w j m → facts.proposed w j m
            → Begins l m ⊎ Begins m l
        agree v k w j l m c p d q = go (at-most-total v k w j)
          where
            go : AtMost v k w j ⊎ AtMost w j v k → Begins l m ⊎ Begins m l
            go (inl h) = inl (safe (suc w) v k l c p w j m (omega arith) q h).1
            go (inr h) = inr (safe (suc v) w j m d q v k l (omega arith) p h).1
