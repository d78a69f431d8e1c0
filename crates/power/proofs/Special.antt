-- Demand 3 of document 01 is the special case in which no box returns, and everything is stored and leaves at once. Assumes nothing.
use mathlib.Core.Path.{◌≡◌, refl, sym, ap, ◌∙◌, subst}
use mathlib.Core.Logic.{◌⊎◌, inl, inr}
use mathlib.Core.Bool.{false, not, ◌&&◌}
use mathlib.Core.Option.{Option, some}
use mathlib.Core.List.{List, [], ◌∷◌, ◌++◌, append_assoc, append-nil}
use Prim.Native.Nat.{ℕ, zero, suc, ◌+◌, ◌≤◌, ◌<◌}
use native.Mathlib.Omega.{arith}
use lib.ListN.{length, get_or, length-append}
use lib.Dec.{T, T_not, eqb, leb, eqb→eq, eqb_refl, nleb→lt}
use Rattle.lists.specs.Choice.{pick}
use Rattle.lists.proofs.Booleans.{is_false}
use Rattle.lists.proofs.Choice.{pick-ok}
use Rattle.scram.specs.Held.{Law, Input, Tick, Arrival, GiveUp}
use Rattle.scram.specs.History as Base
use Rattle.scram.specs.History.{Result, System, Issued, issuing, ticks_on, In, delivered, called, led}
use Rattle.scram.specs.Demand3 as BaseClaim
use Rattle.power.specs.Demand3.{Event, Store, FrameLeaves, CommandLeaves, Made, OneBox, Storage, put, leaving, issued_with, now_stored}
use Rattle.power.specs.Demand3.{stepped, storing, frame_left, nothing, command_left, changing, row_of, made_at}
use Rattle.power.specs.Demand3.{Reached, record_of, keeping, step, steps, start, after}
use Rattle.power.specs.Demand3.{Demand3}
use Rattle.power.specs.Plainly.{leaves_by, renumbered, step_of, plainly}
use Rattle.power.proofs.Plain.{pick_yes, pick_no, Plain, steps-append, event-length, begin}
use Rattle.power.proofs.Boxes.{Of, of_map}

-- ---- frames

-- what leaves by four entries for each of the base's
abbrev spread : List (List ℕ) → List (List ℕ)
spread [] = []
spread (f ∷ s) = [] ∷ [] ∷ f ∷ [] ∷ spread s

spread-more : (s : List (List ℕ)) (f : List ℕ) → spread (s ++ (f ∷ [])) ≡ spread s ++ ([] ∷ [] ∷ f ∷ [] ∷ [])
spread-more [] f = refl
spread-more (x ∷ s) f = ap (λ l. [] ∷ [] ∷ x ∷ [] ∷ l) (spread-more s f)

spread_at : (s : List (List ℕ)) (k : ℕ) → get_or (spread s) (leaves_by k) [] ≡ get_or s k []
spread_at [] zero = refl
spread_at [] (suc k) = refl
spread_at (x ∷ s) zero = refl
spread_at (x ∷ s) (suc k) = spread_at s k

-- ---- rows

-- P holds of each element with its place, counted from n
abbrev Each : {A : Type 0} → (ℕ → A → Type 0) → ℕ → List A → Type 0
Each P n [] = Unit {0}
Each P n (x ∷ l) = P n x × Each P (suc n) l

each_at : {A : Type 0} (P : ℕ → A → Type 0) (n : ℕ) (l : List A) (y : A) (m : List A) → Each P n (l ++ (y ∷ m)) → P (length l + n) y
each_at P n [] y m h = subst (λ k. P k y) (omega arith) h.0
each_at P n (x ∷ l) y m h = subst (λ k. P k y) (omega arith) (each_at P (suc n) l y m h.1)

each_more : {A : Type 0} (P : ℕ → A → Type 0) (n : ℕ) (l : List A) (y : A) → Each P n l → P (length l + n) y → Each P n (l ++ (y ∷ []))
each_more P n [] y h q = (subst (λ k. P k y) (omega arith) q, tt)
each_more P n (x ∷ l) y h q = (h.0, each_more P (suc n) l y h.1 (subst (λ k. P k y) (omega arith) q))

put-twice {ℓ} : {A : Type 0} (P : A → Type ℓ) (f : ℕ → A) (i : ℕ) (x y : A) (j : ℕ) → (T (eqb j i) → P y) → (T (not (eqb j i)) → P (f j))
    → P (put (put f i x) i y j)
put-twice P f i x y j h k =
    pick-ok P (eqb j i) y (put f i x j) h (λ t. pick-ok P (eqb j i) x (f j) (λ u. absurd (T_not (eqb j i) t u)) k)

module _ {State Readings Values : Type 0} (system : System State Readings Values) (law : Law State Readings Values) (storage : Storage system)
    (h : List (Base.Entry system.Handed system.Areas)) where
  abbrev W : Type 0
  W = Reached system law storage

  abbrev Fed : ℕ → Readings → Type 0
  Fed k y = BaseClaim.HandedFor system h (suc k) y

  -- the same boxes, frames and commands, and rows that the base counts
  record Same (c : ℕ) (b : Base.Situation system.Box) (w : W) : Type 0 where
    count : w.count ≡ c
    box : (i : ℕ) → (w.boxes i).now.box ≡ b.box i
    rows : (i : ℕ) → Each Fed 0 (w.boxes i).now.rows
    ticks : (i : ℕ) → length (w.boxes i).now.rows ≡ b.ticks i
    left : w.left ≡ spread b.sent
    issued : w.issued ≡ b.issued
    early : (m : ℕ) → Of (λ x. m < w.count) (w.made m)
    first : (i : ℕ) → (w.boxes i).first ≤ w.count

  same-call : (c : system.Box) (s : List (List ℕ)) (e : Input system.Handed ℕ) (a : system.Areas)
      → called system c (spread s) (renumbered e) a ≡ called system c s e a
  same-call c s (Tick y) a = refl
  same-call c s (Arrival k) a = ap (λ b. delivered system c b a) (spread_at s k)
  same-call c s GiveUp a = refl

  same_row : (e : Input system.Handed ℕ) (r : Result system.Box) → row_of system (renumbered e) r ≡ row_of system e r
  same_row (Tick y) r = refl
  same_row (Arrival k) r = refl
  same_row GiveUp r = refl

  row-fed : (l : List Readings) (c : system.Box) (s : List (List ℕ)) (e : Input system.Handed ℕ) (a : system.Areas)
      → ((y : system.Handed) → e ≡ Tick y → (system.call c (Tick y) a).refused ≡ false → Fed (length l) (system.row y))
      → Each Fed 0 l → Each Fed 0 (l ++ row_of system e (called system c s e a))
  row-fed l c s (Tick y) a f h =
      pick-ok (λ m. Each Fed 0 (l ++ m)) (system.call c (Tick y) a).refused [] (system.row y ∷ []) (λ t. rw (append-nil l) h)
      (λ t. each_more Fed 0 l (system.row y) h
      (subst (λ k. Fed k (system.row y)) (omega arith) (f y refl (is_false (system.call c (Tick y) a).refused t))))
  row-fed l c s (Arrival k) a f h = rw (append-nil l) h
  row-fed l c s GiveUp a f h = rw (append-nil l) h

  -- ---- the four entries of one of the base's

  abbrev four : W → Base.Entry system.Handed system.Areas → W
  four w x =
      step system law storage (step system law storage (step system law storage (step system law storage w (Event (step_of x))) (Store w.count))
      (FrameLeaves w.count)) (CommandLeaves w.count)

  module _ (b : Base.Situation system.Box) (w : W) (v : Same w.count b w) (x : Base.Entry system.Handed system.Areas)
      (fed : (y : system.Handed) → x.event ≡ Tick y → (system.call (b.box x.box) (Tick y) x.areas).refused ≡ false
      → Fed (b.ticks x.box) (system.row y)) where
    abbrev n : ℕ
    n = w.count

    abbrev i : ℕ
    i = x.box

    abbrev s : OneBox system.Box storage.Record Readings
    s = w.boxes i

    -- what the base's call gives back, and what the call gives back here
    abbrev r : Result system.Box
    r = called system (b.box i) b.sent x.event x.areas

    abbrev r' : Result system.Box
    r' = called system s.now.box w.left (renumbered x.event) x.areas

    result : r' ≡ r
    result =
        ap (λ c. called system c w.left (renumbered x.event) x.areas) (v.box i)
        ∙ ap (λ l. called system (b.box i) l (renumbered x.event) x.areas) v.left ∙ same-call (b.box i) b.sent x.event x.areas

    row : row_of system (renumbered x.event) r' ≡ row_of system x.event r
    row = same_row x.event r' ∙ ap (λ z. row_of system x.event z) result

    abbrev b' : Base.Situation system.Box
    b' = led system b x r

    -- after the step, and after its record was stored
    abbrev m : Made system.Box Readings
    m = made_at system i s.now (renumbered x.event) r'

    abbrev w₁ : W
    w₁ = changing w i (stepped s m.replica) n m

    abbrev w₂ : W
    w₂ = changing w₁ i (storing (w₁.boxes i) n (record_of system law storage m.replica)) n (now_stored m)

    -- the other two of the four entries, where the entry n made this
    abbrev final : W → Option (Made system.Box Readings) → W
    final u o = command_left (frame_left u (leaving (λ m. m.frame) o)) (issued_with u.issued o)

    abbrev finish : W → W
    finish u = final u (u.made n)

    stepped-here : w₁.boxes i ≡ stepped s m.replica
    stepped-here = pick_yes (eqb i i) _ _ (eqb_refl i)

    left-more : (f : List ℕ) → f ≡ r.frame
        → (((w.left ++ ([] ∷ [])) ++ ([] ∷ [])) ++ (f ∷ [])) ++ ([] ∷ []) ≡ spread (b.sent ++ (r.frame ∷ []))
    left-more f z =
        ap (λ l. (l ++ (f ∷ [])) ++ ([] ∷ [])) (append_assoc w.left ([] ∷ []) ([] ∷ []))
        ∙ ap (λ l. l ++ ([] ∷ [])) (append_assoc w.left ([] ∷ [] ∷ []) (f ∷ []))
        ∙ append_assoc w.left ([] ∷ [] ∷ f ∷ []) ([] ∷ []) ∙ ap (λ l. l ++ ([] ∷ [] ∷ f ∷ [] ∷ [])) v.left
        ∙ ap (λ y. spread b.sent ++ ([] ∷ [] ∷ y ∷ [] ∷ [])) z ∙ sym (spread-more b.sent r.frame)

    rows_new : Each Fed 0 m.replica.rows
    rows_new =
        subst (λ l. Each Fed 0 (s.now.rows ++ l)) (sym row)
        (row-fed s.now.rows (b.box i) b.sent x.event x.areas
        (λ y q t. subst (λ k. Fed k (system.row y)) (sym (v.ticks i)) (fed y q t)) (v.rows i))

    -- the base's count of the ticks of box j
    abbrev ticks : ℕ → ℕ
    ticks j = b.ticks j + pick (eqb j i && ticks_on x.event r.refused) 1 0

    ticks-new : (j : ℕ) → T (eqb j i) → length m.replica.rows ≡ ticks j
    ticks-new j t =
        let a = length-append s.now.rows (row_of system (renumbered x.event) r') in
        let c = ap length row in
        let d = event-length system (eqb j i) x.event r (b.ticks j) in
        let f = ap length (pick_yes (eqb j i) (row_of system x.event r) [] t) in
        let g = v.ticks i in
        let k = ap (λ z. b.ticks z) (eqb→eq j i t) in
        omega arith

    ticks-other : (j : ℕ) → T (not (eqb j i)) → length (w.boxes j).now.rows ≡ ticks j
    ticks-other j t =
        let d = event-length system (eqb j i) x.event r (b.ticks j) in
        let f = ap length (pick_no (eqb j i) (row_of system x.event r) [] t) in
        let g = v.ticks j in
        omega arith

    abbrev IsSame : W → Type 0
    IsSame = Same (suc (suc (suc (suc n)))) b'

    done-same : IsSame (final w₂ (some (now_stored m)))
    unfolding pick
    done-same = record {
      count = refl;
      box = λ j. put-twice (λ o. o.now.box ≡ pick (eqb j i) r.box (b.box j)) w.boxes i _ _ j
          (λ t. ap (λ o. o.now.box) stepped-here ∙ ap (λ z. z.box) result ∙ sym (pick_yes (eqb j i) r.box (b.box j) t))
          (λ t. v.box j ∙ sym (pick_no (eqb j i) r.box (b.box j) t));
      rows = λ j. put-twice (λ o. Each Fed 0 o.now.rows) w.boxes i _ _ j
          (λ t. subst (λ o. Each Fed 0 o.now.rows) (sym stepped-here) rows_new) (λ t. v.rows j);
      ticks = λ j. put-twice (λ o. length o.now.rows ≡ ticks j) w.boxes i _ _ j
          (λ t. ap (λ o. length o.now.rows) stepped-here ∙ ticks-new j t) (ticks-other j);
      left = left-more r'.frame (ap (λ z. z.frame) result);
      issued = ap (λ z. issuing z.box z.command w.issued) result ∙ ap (λ l. issuing r.box r.command l) v.issued;
      early = λ k. put-twice (Of (λ y. k < suc (suc (suc (suc n))))) w.made n _ _ k (λ t. let z = eqb→eq k n t in omega arith)
          (λ t. of_map (w.made k) (λ y l. omega arith) (v.early k));
      first = λ j. put-twice (λ o. o.first ≤ suc (suc (suc (suc n)))) w.boxes i _ _ j (λ t. omega arith) (λ t. let z = v.first j in omega arith);
    }

    four_same : IsSame (four w x)
    unfolding step
    four_same =
        subst (λ o. IsSame (finish (keeping system law storage w₁ n o))) (sym (pick_yes (eqb n n) (some m) (w.made n) (eqb_refl n)))
        (pick-ok (λ z. IsSame (finish z)) (leb (w₁.boxes i).first n) w₂ (nothing w₁)
        (λ _. subst (λ o. IsSame (final w₂ o)) (sym (pick_yes (eqb n n) (some (now_stored m)) (w₁.made n) (eqb_refl n))) done-same)
        (λ u. let z = nleb→lt (w₁.boxes i).first n u in let y = v.first i in let q = ap (λ o. o.first) stepped-here in absurd (omega arith)))

  -- ---- the whole list

  after_more : (g : Plain system) (x : Base.Entry system.Handed system.Areas)
      → Base.after system (g ++ (x ∷ [])) ≡ Base.step system (Base.after system g) x
  unfolding Base.after Base.steps
  after_more g x = steps-append system (begin system) g (x ∷ [])

  recount : (c : ℕ) (b : Base.Situation system.Box) (w : W) → Same c b w → Same w.count b w
  recount c b w v = record {
    count = refl;
    box = v.box;
    rows = v.rows;
    ticks = v.ticks;
    left = v.left;
    issued = v.issued;
    early = v.early;
    first = v.first;
  }

  -- one of the base's entries
  follow_one : (before later : Plain system) (x : Base.Entry system.Handed system.Areas) (w : W) → h ≡ before ++ (x ∷ later)
      → Same w.count (Base.after system before) w → Same (suc (suc (suc (suc w.count)))) (Base.after system (before ++ (x ∷ []))) (four w x)
  unfolding Base.step
  follow_one before later x w e v =
      rw (after_more before x) (four_same (Base.after system before) w v x (λ y q t. record {
        box = x.box;
        handed = y;
        areas = x.areas;
        before = before;
        later = later;
        whole = e ∙ ap (λ z. before ++ (record { box = x.box; event = z; areas = x.areas } ∷ later)) q;
        taken = t;
        kth = refl;
        same = refl;
      }))

  follow : (later before : Plain system) (c : ℕ) (w : W) → h ≡ before ++ later → Same c (Base.after system before) w
      → (k : ℕ) × Same k (Base.after system h) (steps system law storage w (plainly c later))
  unfolding steps plainly
  follow [] before c w e v = (c, subst (λ g. Same c (Base.after system g) w) (sym (e ∙ append-nil before)) v)
  follow (x ∷ later) before c w e v =
      subst (λ n. (k : ℕ) × Same k (Base.after system h) (steps system law storage w (plainly n (x ∷ later)))) v.count
      (follow later (before ++ (x ∷ [])) (suc (suc (suc (suc w.count)))) (four w x) (e ∙ sym (append_assoc before (x ∷ []) later))
      (follow_one before later x w e (recount c (Base.after system before) w v)))

  same_end : (k : ℕ) × Same k (Base.after system h) (after system law storage (plainly 0 h))
  unfolding after Base.after Base.steps
  same_end = follow h [] 0 (start system law storage) refl (record {
    count = refl;
    box = λ i. refl;
    rows = λ i. tt;
    ticks = λ i. refl;
    left = refl;
    issued = refl;
    early = λ m. tt;
    first = λ i. omega arith;
  })

  -- a period that is 0, or that of a command
  abbrev IsLast : ℕ → List (Issued system.Box) → Type 0
  IsLast k l = (k ≡ 0) ⊎ ((c : Issued system.Box) × In c l × (system.command_period c.bytes ≡ k))

  -- the base's demand 3
  pub special : Demand3 system law storage (plainly 0 h) → BaseClaim.Demand3 system law h
  special d = record {
    last = d.last;
    bounded = d.bounded;
    row = d.row;
    handed = λ k p q. let f = d.handed k p q in
        let g = each_at Fed 0 f.before (d.row k) f.later (subst (Each Fed 0) f.whole (v.rows f.box)) in
        subst (λ n. BaseClaim.HandedFor system h n (d.row k)) (let z = f.kth in omega arith) g;
    decided = λ c p. d.decided c (rw v.issued p);
    is_last = ends d.is_last;
  }
    where
      v : Same same_end.0 (Base.after system h) (after system law storage (plainly 0 h))
      v = same_end.1

      ends : IsLast d.last (after system law storage (plainly 0 h)).issued → IsLast d.last (Base.after system h).issued
      ends (inl e) = inl e
      ends (inr (c, p, e)) = inr (c, subst (In c) v.issued p, e)
