-- Histories of the base, without power cycles: the rows behind each box, and calls carried over to such a history. Assumes nothing.
use mathlib.Core.Path.{◌≡◌, refl, sym, ap, ◌∙◌, subst}
use mathlib.Core.Logic.{◌⊎◌, inl, inr, ◌≢◌}
use mathlib.Core.Bool.{Bool, true, false, not, ◌&&◌}
use mathlib.Core.List.{List, [], ◌∷◌, ◌++◌, append_assoc, append-nil}
use Prim.Native.Nat.{ℕ, suc, ◌+◌}
use native.Mathlib.Omega.{arith}
use lib.ListN.{length, length-append}
use lib.Dec.{T, not_T, eqb, eqb→eq, eqb_refl}
use Rattle.lists.specs.Choice.{pick}
use Rattle.lists.proofs.Booleans.{is_true, is_false}
use Rattle.lists.proofs.Choice.{pick_true, pick-false}
use Rattle.scram.specs.Held.{Input, Tick, Arrival, GiveUp}
use Rattle.scram.specs.History.{Result, System, Entry, Issued, Situation, issuing, ticks_on, In, called, led, step, steps, after}
use Rattle.scram.specs.Demand3.{HandedFor}
use Rattle.power.specs.Demand3.{WithRows, row_of}
use Rattle.power.proofs.Paths.{in_left, in-last, in_place, past_end, Within, Call, InputHas, AllHave, input-within, input_of}
use Rattle.power.proofs.Paths.{quiet, Gives, Calls, ran, ran-called, row-called, gave, then, runs, From}

pub pick_yes : {A : Type 0} (b : Bool) (x y : A) → T b → pick b x y ≡ x
pick_yes b x y t = pick_true b x y (is_true b t)

pub pick_no : {A : Type 0} (b : Bool) (x y : A) → T (not b) → pick b x y ≡ y
pick_no b x y t = pick-false b x y (is_false b t)

ne_eqb : (a b : ℕ) → a ≢ b → T (not (eqb a b))
ne_eqb a b h = not_T (eqb a b) (λ t. h (eqb→eq a b t))

module _ {State Readings Values : Type 0} (system : System State Readings Values) where
  abbrev World : Type 0
  World = Situation system.Box

  abbrev pub Plain : Type 0
  Plain = List (Entry system.Handed system.Areas)

  pub steps-append : (w : World) (g h : Plain) → steps system w (g ++ h) ≡ steps system (steps system w g) h
  unfolding steps
  steps-append w [] h = refl
  steps-append w (e ∷ g) h = steps-append (step system w e) g h

  -- ---- rows

  -- what an entry's call gives back
  abbrev result : World → Entry system.Handed system.Areas → Result system.Box
  result w e = called system (w.box e.box) w.sent e.event e.areas

  -- the row that one entry brings box i
  abbrev extra : World → Entry system.Handed system.Areas → ℕ → List Readings
  extra w e i = pick (eqb i e.box) (row_of system e.event (result w e)) []

  -- the rows that a list brings box i
  unfoldable pub rows_from : World → Plain → ℕ → List Readings
  rows_from w [] i = []
  rows_from w (e ∷ h) i = extra w e i ++ rows_from (step system w e) h i

  rows_append : (w : World) (g h : Plain) (i : ℕ) → rows_from w (g ++ h) i ≡ rows_from w g i ++ rows_from (steps system w g) h i
  unfolding rows_from steps
  rows_append w [] h i = refl
  rows_append w (e ∷ g) h i =
      ap (λ z. extra w e i ++ z) (rows_append (step system w e) g h i)
      ∙ sym (append_assoc (extra w e i) (rows_from (step system w e) g i) (rows_from (steps system (step system w e) g) h i))

  tick-length : (b c : Bool) (y : Readings) (n : ℕ) → length (pick b (pick c [] (y ∷ [])) []) + n ≡ n + pick (b && not c) 1 0
  unfolding pick
  tick-length true true y n = omega arith
  tick-length true false y n = omega arith
  tick-length false c y n = omega arith

  other_length : (b : Bool) (n : ℕ) → length (pick {A = List Readings} b [] []) + n ≡ n + pick (b && false) 1 0
  unfolding pick
  other_length true n = omega arith
  other_length false n = omega arith

  pub event-length : (b : Bool) (e : Input system.Handed ℕ) (r : Result system.Box) (n : ℕ)
      → length (pick b (row_of system e r) []) + n ≡ n + pick (b && ticks_on e r.refused) 1 0
  event-length b (Tick y) r n = tick-length b r.refused (system.row y) n
  event-length b (Arrival k) r n = other_length b n
  event-length b GiveUp r n = other_length b n

  extra-length : (w : World) (e : Entry system.Handed system.Areas) (i : ℕ) → length (extra w e i) + w.ticks i ≡ (step system w e).ticks i
  unfolding step
  extra-length w e i = event-length (eqb i e.box) e.event (result w e) (w.ticks i)

  -- there are as many rows as the base counts ticks
  rows-length : (w : World) (h : Plain) (i : ℕ) → length (rows_from w h i) + w.ticks i ≡ (steps system w h).ticks i
  unfolding rows_from steps
  rows-length w [] i = omega arith
  rows-length w (e ∷ h) i =
      let a = extra-length w e i in
      let b = rows-length (step system w e) h i in
      let c = length-append (extra w e i) (rows_from (step system w e) h i) in
      omega arith

  abbrev pub begin : World
  begin = record { box = system.fresh; sent = []; issued = []; ticks = λ j. 0 }

  -- what a history of the base comes to at box i
  abbrev pub box_in : Plain → ℕ → WithRows system.Box Readings
  box_in h i = record { box = (after system h).box i; rows = rows_from begin h i }

  pub box-start : (i : ℕ) → box_in [] i ≡ record { box = system.fresh i; rows = [] }
  unfolding after steps rows_from
  box-start i = refl

  -- a row of the base's claim is a row behind its box
  pub handed-row : (h : Plain) (k : ℕ) (y : Readings) (d : HandedFor system h k y)
      → (before : List Readings) × (later : List Readings) × ((box_in h d.box).rows ≡ before ++ (y ∷ later)) × (k ≡ suc (length before))
  unfolding after rows_from
  handed-row h k y d = (
    rows_from begin d.before i,
    rows_from (step system w e) d.later i,
    ap (λ z. rows_from begin z i) d.whole ∙ rows_append begin d.before (e ∷ d.later) i
        ∙ ap (λ z. rows_from begin d.before i ++ z) (own ∙ ap (λ z. z ∷ rows_from (step system w e) d.later i) (sym d.same)),
    let a = rows-length begin d.before i in let b = d.kth in omega arith,
  )
    where
      i : ℕ
      i = d.box

      e : Entry system.Handed system.Areas
      e = record { box = i; event = Tick d.handed; areas = d.areas }

      w : World
      w = steps system begin d.before

      refused : Bool
      refused = (system.call (w.box i) (Tick d.handed) d.areas).refused

      own : rows_from w (e ∷ d.later) i ≡ system.row d.handed ∷ rows_from (step system w e) d.later i
      own =
          ap (λ z. z ++ rows_from (step system w e) d.later i)
          (pick_yes (eqb i i) (pick refused [] (system.row d.handed ∷ [])) [] (eqb_refl i)
          ∙ pick_no refused [] (system.row d.handed ∷ []) (rw d.taken tt))

  -- ---- one call carried over

  -- the event that makes a call
  abbrev event_for : (s : List (List ℕ)) (x : Input system.Handed (List ℕ)) → InputHas s x → Input system.Handed ℕ
  event_for s (Tick y) h = Tick y
  event_for s (Arrival b) (inl e) = Arrival (length s)
  event_for s (Arrival b) (inr p) = Arrival (in_place [] b s p).0
  event_for s GiveUp h = GiveUp

  event-input : (s : List (List ℕ)) (x : Input system.Handed (List ℕ)) (h : InputHas s x) → input_of s (event_for s x h) ≡ x
  event-input s (Tick y) h = refl
  event-input s (Arrival b) (inl e) = ap (λ z. Arrival z) (past_end [] s ∙ sym e)
  event-input s (Arrival b) (inr p) = ap (λ z. Arrival z) (in_place [] b s p).1
  event-input s GiveUp h = refl

  issuing-within : (c : system.Box) (b : List ℕ) (l : List (Issued system.Box)) → Within l (issuing c b l)
  issuing-within c [] l x p = p
  issuing-within c (b ∷ bs) l x p = inr p

  issuing-in : (c : system.Box) (b : List ℕ) (l : List (Issued system.Box)) → (b ≡ []) ⊎ In (record { bytes = b; box = c }) (issuing c b l)
  issuing-in c [] l = inl refl
  issuing-in c (b ∷ bs) l = inr (inl refl)

  -- a history with calls of box i carried over, so that the box comes to v; the last of them gave this frame and this command
  pub record Carry (g : Plain) (i : ℕ) (v : WithRows system.Box Readings) (f c : List ℕ) : Type 0 where
    pub plain : Plain
    pub own : box_in plain i ≡ v
    pub others : (j : ℕ) → j ≢ i → box_in plain j ≡ box_in g j
    pub sent : Within (after system g).sent (after system plain).sent
    pub issued : Within (after system g).issued (after system plain).issued
    pub frame : (f ≡ []) ⊎ In f (after system plain).sent
    pub command : (c ≡ []) ⊎ In (record { bytes = c; box = v.box }) (after system plain).issued

  module _ (g : Plain) (i : ℕ) (x : Call system.Handed system.Areas) (has : InputHas (after system g).sent x.input) where
    abbrev w : World
    w = after system g

    abbrev e : Entry system.Handed system.Areas
    e = record { box = i; event = event_for w.sent x.input has; areas = x.areas }

    abbrev r : Result system.Box
    r = called system (w.box i) w.sent e.event e.areas

    gives : r ≡ gave system (box_in g i) x
    gives =
        ran-called system (w.box i) w.sent e.event e.areas
        ∙ ap (λ z. ran system (w.box i) z x.areas) (event-input w.sent x.input has)

    after_one : after system (g ++ (e ∷ [])) ≡ led system w e r
    unfolding after steps step
    after_one = steps-append begin g (e ∷ [])

    rows-one : (j : ℕ) → rows_from begin (g ++ (e ∷ [])) j ≡ rows_from begin g j ++ pick (eqb j i) (row_of system e.event r) []
    unfolding after rows_from
    rows-one j = rows_append begin g (e ∷ []) j ∙ ap (λ z. rows_from begin g j ++ z) (append-nil (extra w e j))

    row_one : row_of system e.event r ≡ row_of system x.input (gave system (box_in g i) x)
    row_one =
        row-called system w.sent e.event r ∙ ap (λ z. row_of system z r) (event-input w.sent x.input has)
        ∙ ap (λ z. row_of system x.input z) gives

    carry-one : Carry g i (then system (box_in g i) x) (gave system (box_in g i) x).frame (gave system (box_in g i) x).command
    carry-one = record {
      plain = g ++ (e ∷ []);
      own = λ k. record {
        box = (ap (λ z. z.box i) after_one ∙ pick_yes (eqb i i) r.box (w.box i) (eqb_refl i) ∙ ap (λ z. z.box) gives) k;
        rows = (rows-one i ∙ ap (λ z. rows_from begin g i ++ z) (pick_yes (eqb i i) (row_of system e.event r) [] (eqb_refl i) ∙ row_one)) k;
      };
      others = λ j n k. record {
        box = (ap (λ z. z.box j) after_one ∙ pick_no (eqb j i) r.box (w.box j) (ne_eqb j i n)) k;
        rows = (rows-one j ∙ ap (λ z. rows_from begin g j ++ z) (pick_no (eqb j i) (row_of system e.event r) [] (ne_eqb j i n))
            ∙ append-nil (rows_from begin g j)) k;
      };
      sent = rw after_one (λ b p. in_left b w.sent (r.frame ∷ []) p);
      issued = rw after_one (issuing-within r.box r.command w.issued);
      frame = inr (rw after_one (rw (← gives) (in-last r.frame w.sent)));
      command = rw after_one (rw (← gives) (issuing-in r.box r.command w.issued));
    }

  -- ---- calls carried over

  carry-then : (g : Plain) (i : ℕ) (u : WithRows system.Box Readings) → Carry g i u [] [] → (x : Call system.Handed system.Areas)
      → InputHas (after system g).sent x.input → (f c : List ℕ) → (f ≡ []) ⊎ (f ≡ (gave system u x).frame)
      → (c ≡ []) ⊎ (c ≡ (gave system u x).command) → Carry g i (then system u x) f c
  carry-then g i u a x h f c e e' = record {
    plain = b.plain;
    own = b.own ∙ ap (λ z. then system z x) a.own;
    others = λ j n. b.others j n ∙ a.others j n;
    sent = λ y q. b.sent y (a.sent y q);
    issued = λ y q. b.issued y (a.issued y q);
    frame = frames e;
    command = commands e';
  }
    where
      now : WithRows system.Box Readings
      now = box_in a.plain i

      b : Carry a.plain i (then system now x) (gave system now x).frame (gave system now x).command
      b = carry-one a.plain i x (input-within (after system g).sent (after system a.plain).sent a.sent x.input h)

      frames : (f ≡ []) ⊎ (f ≡ (gave system u x).frame) → (f ≡ []) ⊎ In f (after system b.plain).sent
      frames (inl z) = inl z
      frames (inr z) =
          subst (λ y. (y ≡ []) ⊎ In y (after system b.plain).sent) (ap (λ y. (gave system y x).frame) a.own ∙ sym z) b.frame

      commands : (c ≡ []) ⊎ (c ≡ (gave system u x).command)
          → (c ≡ []) ⊎ In (record { bytes = c; box = (gave system u x).box }) (after system b.plain).issued
      commands (inl z) = inl z
      commands (inr z) =
          rw z (subst (λ y. ((gave system y x).command ≡ [])
          ⊎ In (record { bytes = (gave system y x).command; box = (gave system y x).box }) (after system b.plain).issued) a.own b.command)

  carry-calls : (g : Plain) (i : ℕ) (p : Calls system) (f c : List ℕ) → AllHave (after system g).sent p → Gives system (box_in g i) p f c
      → Carry g i (runs system (box_in g i) p) f c
  unfolding runs
  carry-calls g i [] f c h (e, e') = record {
    plain = g;
    own = refl;
    others = λ j n. refl;
    sent = λ b q. q;
    issued = λ b q. q;
    frame = inl e;
    command = inl e';
  }
  carry-calls g i (x ∷ p) f c h (e, e') =
      carry-then g i (runs system (box_in g i) p) (carry-calls g i p [] [] h.1 (quiet system (box_in g i) p)) x h.0 f c e e'

  pub carry : (g : Plain) (i : ℕ) (v : WithRows system.Box Readings) (f c : List ℕ)
      → From system (after system g).sent (box_in g i) v f c → Carry g i v f c
  carry g i v f c a = subst (λ z. Carry g i z f c) (sym a.same) (carry-calls g i a.path f c a.has a.gives)
