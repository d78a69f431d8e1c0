-- Demand 3 holds of any implementation whose calls show the protocol's steps. Assumes nothing.
use mathlib.Core.Path.{◌≡◌, refl, sym, ap, ap₂, ◌∙◌}
use mathlib.Core.Logic.{◌⊎◌, inl, inr}
use mathlib.Core.List.{List, [], ◌∷◌, ◌++◌}
use Prim.Native.Nat.{ℕ, zero, suc, ◌+◌, ◌-◌, ◌≤◌, ◌<◌}
use native.Mathlib.Omega.{arith}
use lib.ListN.{length}
use Rattle.scram.specs.Held.{Law, Group, Estimate, Held, Message, Input, Tick, Arrival, GiveUp}
use Rattle.scram.specs.Events.{largest, command_of}
use Rattle.scram.specs.History.{System, Entry, Issued, In, after}
use Rattle.scram.specs.Demand3.{controller, controller_command, HandedFor, Decided, Demand3}
use Rattle.scram.specs.Shown.{Shown}
use Rattle.scram.proofs.Rows.{begins-length}
use Rattle.scram.proofs.Facts.{EachFed}
use Rattle.scram.proofs.Ties.{run, Made, made-run}
use Rattle.scram.proofs.Longest.{row_at, row_last, row-earlier, row-begins, row-fed, Behind, Served, Longest, longest}
use Rattle.scram.proofs.Invariant.{Told, Invariant, EntryFeeds, start-invariant, after-invariant}

-- ---- the single controller, fed the rows that an estimate was made from

module _ {State Readings Values : Type 0} (law : Law State Readings Values) (row : ℕ → Readings) where
  -- it is fed these rows
  abbrev FedRows : List Readings → Type 0
  FedRows l = (k : ℕ) → 1 ≤ k → k ≤ length l → row k ≡ row_at law.none l k

  fed-last : (y : Readings) (l : List Readings) → FedRows (y ∷ l) → row (suc (length l)) ≡ y
  fed-last y l e = e (suc (length l)) (omega arith) (omega arith) ∙ row_last law.none y l

  fed-earlier : (y : Readings) (l : List Readings) → FedRows (y ∷ l) → FedRows l
  fed-earlier y l e k p q = e k p (omega arith) ∙ row-earlier law.none y l k q

  step-before : (k : ℕ) → suc k - 1 ≡ k
  step-before k = omega arith

  -- its state after rows is their run
  controller-run : (l : List Readings) → FedRows l → controller law row (length l) ≡ run law l
  unfolding controller run
  controller-run [] e = refl
  controller-run (y ∷ l) e = ap₂ law.update (controller-run l (fed-earlier y l e)) (fed-last y l e)

  -- the update of an estimate made from rows is its state after them, and the estimate's command is its last command
  controller-made : (l : List Readings) (x : Estimate State Readings) → 1 ≤ length l → FedRows l → Made law l x
      → (law.update x.state x.readings ≡ controller law row (length l)) × (law.command x.state x.readings ≡ controller_command law row (length l))
  unfolding controller_command
  controller-made [] x h e m = absurd (omega arith)
  controller-made (y ∷ l) x h e m = (
    made-run law y l x m ∙ sym (controller-run (y ∷ l) e),
    ap₂ law.command (m.0 ∙ sym (ap (controller law row) (step-before (length l)) ∙ controller-run l (fed-earlier y l e))) (m.1 ∙ sym (fed-last y l e)),
  )

  -- "Step k makes the state Update(state, row k)", of the state after k − 1 steps
  pub new-state : (k : ℕ) → 1 ≤ k → law.update (controller law row (k - 1)) (row k) ≡ controller law row k
  unfolding controller
  new-state zero l = absurd (omega arith)
  new-state (suc k) l = ap (λ j. law.update (controller law row j) (row (suc k))) (step-before k)

-- ---- demand 3

module _ {State Readings Values : Type 0} (system : System State Readings Values) (Kept : ℕ → system.Box → Type 0)
    (Carried : Message State Readings → Type 0) (law : Law State Readings Values) (group : Group) (shown : Shown system Kept Carried law group)
    (quorums : group.size < group.to_decide + group.to_propose) (h : List (Entry system.Handed system.Areas)) where
  -- rows that boxes were handed, of periods not above the largest
  abbrev Fed : ℕ → Readings → Type 0
  Fed k y = HandedFor system h k y × (k ≤ largest)

  fed-bounded : (l : List Readings) → EachFed Fed l → length l ≤ largest
  fed-bounded [] f = omega arith
  fed-bounded (y ∷ l) f = f.0.1

  -- a tick of the list that is not refused is the one that its row was handed by
  handed-by : (before later : List (Entry system.Handed system.Areas)) (i : ℕ) (e : Input system.Handed ℕ) (a : system.Areas)
      → h ≡ before ++ (record { box = i; event = e; areas = a } ∷ later)
      → EntryFeeds system Kept Carried law group shown Fed (after system before) (record { box = i; event = e; areas = a })
  handed-by before later i (Tick y) a q = λ taken bounded. (
    record {
      box = i;
      handed = y;
      areas = a;
      before = before;
      later = later;
      whole = q;
      taken = taken;
      kth = refl;
      same = refl;
    },
    bounded,
  )
  handed-by before later i (Arrival j) a q = tt
  handed-by before later i GiveUp a q = tt

  invariant : Invariant system Kept Carried law group shown Fed (after system h)
  unfolding after
  invariant =
      after-invariant system Kept Carried law group shown Fed [] h (λ b a e q. handed-by b a e.box e.event e.areas q)
      (start-invariant system Kept Carried law group shown Fed)

  abbrev held_by : Issued system.Box → Held State Readings
  held_by x = system.held x.box

  longest-rows : Longest law group Fed held_by invariant.facts (after system h).issued
  longest-rows =
      longest law group Fed held_by quorums invariant.facts invariant.consistent (after system h).issued
      (λ x p. (invariant.written x p).decision)

  -- demand 3, for a + b > N
  pub demand-3 : Demand3 system law h
  demand-3 = record {
    last = length rows;
    bounded = fed-bounded rows (each_fed longest-rows.behind);
    row = row_at law.none rows;
    handed = λ k p q. (row-fed law.none Fed rows (each_fed longest-rows.behind) k p q).0;
    decided = λ x p. decided x (invariant.written x p) (longest-rows.serves x p);
    is_last = ends longest-rows.behind;
  }
    where
      rows : List Readings
      rows = longest-rows.rows

      each_fed : (rows ≡ []) ⊎ Behind law group Fed held_by invariant.facts (after system h).issued rows → EachFed Fed rows
      each_fed (inl z) = rw z tt
      each_fed (inr (x, v, i, p, c)) = (invariant.consistent.rows v (held_by x).period rows p).0.1

      -- the period in a command's bytes is that of the replica given back with it
      read : (x : Issued system.Box) → Told system Kept Carried law group shown Fed invariant.facts x
          → system.command_period x.bytes ≡ (held_by x).period
      read x t =
          let (v, l, p, _, _) = t.decision in
          let (to, _) = invariant.consistent.rows v (held_by x).period l p in
          let e = to.0 in
          let below = fed-bounded l to.1 in
          ap system.command_period t.bytes ∙ shown.period_read (command_of law (held_by x).period (held_by x).estimate) (omega arith)

      ends : (rows ≡ []) ⊎ Behind law group Fed held_by invariant.facts (after system h).issued rows
          → (length rows ≡ 0) ⊎ ((x : Issued system.Box) × In x (after system h).issued × (system.command_period x.bytes ≡ length rows))
      ends (inl z) = inl (ap length z)
      ends (inr (x, v, i, p, c)) = inr (x, i, read x (invariant.written x i) ∙ sym (invariant.consistent.rows v (held_by x).period rows p).0.0)

      decided : (x : Issued system.Box) → Told system Kept Carried law group shown Fed invariant.facts x
          → Served law group Fed held_by rows x → Decided system law (length rows) (row_at law.none rows) x
      decided x t (l, s, a, b, m) =
          let z = controller-made law (row_at law.none rows) l (held_by x).estimate (omega arith) (λ k _ q. row-begins law.none s k q) m in record {
            period = length l;
            from1 = omega arith;
            most = begins-length s;
            written = read x t ∙ sym a;
            held = sym a;
            state = z.0;
            bytes = t.bytes ∙ λ i. system.command_bytes (record { period = sym a i; values = z.1 i });
          }

-- all commands of one period, which their bytes have, are alike to the last byte
pub commands-alike : {State Readings Values : Type 0} (system : System State Readings Values) (law : Law State Readings Values)
    (h : List (Entry system.Handed system.Areas)) → Demand3 system law h → (c d : Issued system.Box) → In c (after system h).issued
    → In d (after system h).issued → system.command_period c.bytes ≡ system.command_period d.bytes → c.bytes ≡ d.bytes
commands-alike system law h run c d p q e =
    let a = run.decided c p in
    let b = run.decided d q in
    let k : a.period ≡ b.period = sym a.written ∙ e ∙ b.written in
    a.bytes ∙ ap (λ n. system.command_bytes (record { period = n; values = controller_command law run.row n })) k ∙ sym b.bytes
