-- Calls one after the other at a box, with the bytes of their frames, and which replica comes of which. Assumes nothing.
use mathlib.Core.Path.{◌≡◌, refl, sym, ap, ◌∙◌, subst}
use mathlib.Core.Logic.{◌⊎◌, inl, inr}
use mathlib.Core.Option.{Option, none, some}
use mathlib.Core.List.{List, [], ◌∷◌, ◌++◌, append_assoc, append-nil}
use Prim.Native.Nat.{ℕ, suc}
use native.Mathlib.Omega.{arith}
use lib.ListN.{length, get_or}
use Rattle.scram.specs.Held.{Law, Group, Message, Input, Tick, Arrival, GiveUp, Outcome}
use Rattle.scram.specs.History.{Result, System, In, delivered, called}
use Rattle.scram.specs.Shown.{Still, in_bytes, outcome, Sent, Arrives, Does, Shown}
use Rattle.power.specs.Demand3.{WithRows, Storage, row_of}
use Rattle.power.specs.Returns.{Returns}

-- ---- lists

pub in_left : {A : Type 0} (x : A) (l m : List A) → In x l → In x (l ++ m)
in_left x [] m p = absurd p
in_left x (y ∷ l) m (inl e) = inl e
in_left x (y ∷ l) m (inr p) = inr (in_left x l m p)

pub in-last : {A : Type 0} (x : A) (l : List A) → In x (l ++ (x ∷ []))
in-last x [] = inl refl
in-last x (y ∷ l) = inr (in-last x l)

pub in_place : {A : Type 0} (d x : A) (l : List A) → In x l → (k : ℕ) × (get_or l k d ≡ x)
in_place d x [] p = absurd p
in_place d x (y ∷ l) (inl e) = (0, sym e)
in_place d x (y ∷ l) (inr p) = let (k, e) = in_place d x l p in (suc k, e)

pub past_end : {A : Type 0} (d : A) (l : List A) → get_or l (length l) d ≡ d
past_end d [] = refl
past_end d (y ∷ l) = past_end d l

-- whatever stands in the one list stands in the other
abbrev pub Within : {A : Type 0} → List A → List A → Type 0
Within {A} s t = (b : A) → In b s → In b t

-- ---- calls

-- what a call is given: the input, an arriving frame by its bytes, and the lent areas
pub record Call (Handed Areas : Type 0) : Type 0 where
  pub input : Input Handed (List ℕ)
  pub areas : Areas

-- bytes that were sent, or none
abbrev pub Has : List (List ℕ) → List ℕ → Type 0
Has s b = (b ≡ []) ⊎ In b s

-- the frame that arrives was sent
abbrev pub InputHas : {Handed : Type 0} → List (List ℕ) → Input Handed (List ℕ) → Type 0
InputHas s (Tick y) = Unit {0}
InputHas s (Arrival b) = Has s b
InputHas s GiveUp = Unit {0}

abbrev pub AllHave : {Handed Areas : Type 0} → List (List ℕ) → List (Call Handed Areas) → Type 0
AllHave s [] = Unit {0}
AllHave s (x ∷ p) = InputHas s x.input × AllHave s p

pub input-within : {Handed : Type 0} (s t : List (List ℕ)) → Within s t → (x : Input Handed (List ℕ)) → InputHas s x → InputHas t x
input-within s t g (Tick y) h = tt
input-within s t g (Arrival b) (inl e) = inl e
input-within s t g (Arrival b) (inr p) = inr (g b p)
input-within s t g GiveUp h = tt

pub all-within : {Handed Areas : Type 0} (s t : List (List ℕ)) → Within s t → (p : List (Call Handed Areas)) → AllHave s p → AllHave t p
all-within s t g [] h = tt
all-within s t g (x ∷ p) h = (input-within s t g x.input h.0, all-within s t g p h.1)

pub all_append : {Handed Areas : Type 0} (s : List (List ℕ)) (p q : List (Call Handed Areas)) → AllHave s p → AllHave s q → AllHave s (p ++ q)
all_append s [] q h k = k
all_append s (x ∷ p) q h k = (h.0, all_append s p q h.1 k)

-- an event of a list as a call's input, where these frames left
abbrev pub input_of : {Handed : Type 0} → List (List ℕ) → Input Handed ℕ → Input Handed (List ℕ)
input_of s (Tick y) = Tick y
input_of s (Arrival k) = Arrival (get_or s k [])
input_of s GiveUp = GiveUp

pub input-has : {Handed : Type 0} (s left : List (List ℕ)) → ((k : ℕ) → Has s (get_or left k [])) → (e : Input Handed ℕ) → InputHas s (input_of left e)
input-has s left h (Tick y) = tt
input-has s left h (Arrival k) = h k
input-has s left h GiveUp = tt

module _ {State Readings Values : Type 0} (system : System State Readings Values) where
  abbrev pub Calls : Type 0
  Calls = List (Call system.Handed system.Areas)

  -- what a call gives back
  abbrev pub ran : system.Box → Input system.Handed (List ℕ) → system.Areas → Result system.Box
  ran c (Tick y) a = system.call c (Tick y) a
  ran c (Arrival b) a = delivered system c b a
  ran c GiveUp a = system.call c GiveUp a

  pub ran-called : (c : system.Box) (s : List (List ℕ)) (e : Input system.Handed ℕ) (a : system.Areas)
      → called system c s e a ≡ ran c (input_of s e) a
  ran-called c s (Tick y) a = refl
  ran-called c s (Arrival k) a = refl
  ran-called c s GiveUp a = refl

  pub row-called : (s : List (List ℕ)) (e : Input system.Handed ℕ) (r : Result system.Box) → row_of system e r ≡ row_of system (input_of s e) r
  row-called s (Tick y) r = refl
  row-called s (Arrival k) r = refl
  row-called s GiveUp r = refl

  abbrev pub gave : WithRows system.Box Readings → Call system.Handed system.Areas → Result system.Box
  gave v x = ran v.box x.input x.areas

  -- one call more
  abbrev pub then : WithRows system.Box Readings → Call system.Handed system.Areas → WithRows system.Box Readings
  then v x = record { box = (gave v x).box; rows = v.rows ++ row_of system x.input (gave v x) }

  -- calls one after the other, the latest first in the list
  unfoldable pub runs : WithRows system.Box Readings → Calls → WithRows system.Box Readings
  runs u [] = u
  runs u (x ∷ p) = then (runs u p) x

  pub runs_append : (u : WithRows system.Box Readings) (q p : Calls) → runs u (q ++ p) ≡ runs (runs u p) q
  unfolding runs
  runs_append u [] p = refl
  runs_append u (x ∷ q) p = ap (λ v. then v x) (runs_append u q p)

  -- rows are only added
  pub runs-rows : (u : WithRows system.Box Readings) (p : Calls) → (l : List Readings) × ((runs u p).rows ≡ u.rows ++ l)
  unfolding runs
  runs-rows u [] = ([], sym (append-nil u.rows))
  runs-rows u (x ∷ p) =
      let (l, e) = runs-rows u p in
      let r = row_of system x.input (gave (runs u p) x) in
      (l ++ r, ap (λ z. z ++ r) e ∙ append_assoc u.rows l r)

  -- a frame and a command are what the last of these calls gave, or nothing
  abbrev pub Gives : WithRows system.Box Readings → Calls → List ℕ → List ℕ → Type 0
  Gives u [] f c = (f ≡ []) × (c ≡ [])
  Gives u (x ∷ p) f c = ((f ≡ []) ⊎ (f ≡ (gave (runs u p) x).frame)) × ((c ≡ []) ⊎ (c ≡ (gave (runs u p) x).command))

  -- a replica comes of another by calls with frames that were sent, and the last of them gave this frame and this command
  pub record From (s : List (List ℕ)) (u v : WithRows system.Box Readings) (f c : List ℕ) : Type 0 where
    pub path : Calls
    pub same : v ≡ runs u path
    pub has : AllHave s path
    pub gives : Gives u path f c

  pub quiet : (u : WithRows system.Box Readings) (p : Calls) → Gives u p [] []
  quiet u [] = (refl, refl)
  quiet u (x ∷ p) = (inl refl, inl refl)

  pub from-self : (s : List (List ℕ)) (u v : WithRows system.Box Readings) → v ≡ u → From s u v [] []
  unfolding runs
  from-self s u v e = record { path = []; same = e; has = tt; gives = (refl, refl) }

  module _ {s : List (List ℕ)} {u v : WithRows system.Box Readings} {f c : List ℕ} where
    pub from-quiet : From s u v f c → From s u v [] []
    from-quiet a = record { path = a.path; same = a.same; has = a.has; gives = quiet u a.path }

    pub from-within : {t : List (List ℕ)} → Within s t → From s u v f c → From t u v f c
    from-within {t} g a = record { path = a.path; same = a.same; has = all-within s t g a.path a.has; gives = a.gives }

    pub from_then : From s u v f c → (x : Call system.Handed system.Areas) → InputHas s x.input
        → From s u (then v x) (gave v x).frame (gave v x).command
    unfolding runs
    from_then a x h = record {
      path = x ∷ a.path;
      same = ap (λ z. then z x) a.same;
      has = (h, a.has);
      gives = (inr (ap (λ z. (gave z x).frame) a.same), inr (ap (λ z. (gave z x).command) a.same));
    }

    pub from-trans : {w : WithRows system.Box Readings} {g d : List ℕ} → From s u v f c → From s v w g d → From s u w g d
    unfolding runs
    from-trans {w} {g} {d} a b = record {
      path = b.path ++ a.path;
      same = b.same ∙ ap (λ z. runs z b.path) a.same ∙ sym (runs_append u b.path a.path);
      has = all_append s b.path a.path b.has a.has;
      gives = go b.path b.gives;
    }
      where
        go : (q : Calls) → Gives v q g d → Gives u (q ++ a.path) g d
        go [] (e, e') = rw (e, e') (quiet u a.path)
        go (x ∷ q) (e, e') = (one e, two e')
          where
            z : runs v q ≡ runs u (q ++ a.path)
            z = ap (λ z. runs z q) a.same ∙ sym (runs_append u q a.path)

            one : (g ≡ []) ⊎ (g ≡ (gave (runs v q) x).frame) → (g ≡ []) ⊎ (g ≡ (gave (runs u (q ++ a.path)) x).frame)
            one (inl k) = inl k
            one (inr k) = inr (k ∙ ap (λ y. (gave y x).frame) z)

            two : (d ≡ []) ⊎ (d ≡ (gave (runs v q) x).command) → (d ≡ []) ⊎ (d ≡ (gave (runs u (q ++ a.path)) x).command)
            two (inl k) = inl k
            two (inr k) = inr (k ∙ ap (λ y. (gave y x).command) z)

-- ---- what every call keeps

-- an implementation whose calls show the protocol's steps, and whose returning shows missed ticks
pub record Premises (State Readings Values : Type 0) : Type 1 where
  pub system : System State Readings Values
  pub Kept : ℕ → system.Box → Type 0
  pub Carried : Message State Readings → Type 0
  pub law : Law State Readings Values
  pub group : Group
  pub shown : Shown system Kept Carried law group
  pub storage : Storage system
  pub returns : Returns system Kept law storage

module _ {State Readings Values : Type 0} (p : Premises State Readings Values) where
  abbrev system : System State Readings Values
  system = p.system

  -- bytes of a message that the frames can carry, or none
  abbrev pub Good : List ℕ → Type 0
  Good b = (b ≡ []) ⊎ ((m : Message State Readings) × (b ≡ system.frame_bytes m) × p.Carried m)

  abbrev pub InputGood : Input system.Handed (List ℕ) → Type 0
  InputGood (Tick y) = Unit {0}
  InputGood (Arrival b) = Good b
  InputGood GiveUp = Unit {0}

  pub input-good : (left : List (List ℕ)) → ((k : ℕ) → Good (get_or left k [])) → (e : Input system.Handed ℕ) → InputGood (input_of left e)
  input-good left h (Tick y) = tt
  input-good left h (Arrival k) = h k
  input-good left h GiveUp = tt

  abbrev pub Keeps : ℕ → Result system.Box → Type 0
  Keeps i r = p.Kept i r.box × Good r.frame

  sent-good : (m : Option (Message State Readings)) (b : List ℕ) → Sent system p.Carried m b → Good b
  sent-good none b h = inl h
  sent-good (some m) b h = inr (m, h.0, h.1)

  -- a call whose frame, if one arrives, is of a message
  message-keeps : (i : ℕ) (c : system.Box) (e : Input system.Handed (Message State Readings)) (a : system.Areas) → p.Kept i c
      → Arrives system p.Carried e → Keeps i (system.call c (in_bytes system e) a)
  message-keeps i c e a k w = go (p.shown.calls i c e a k w)
    where
      o : Outcome State Readings Values
      o = outcome system p.law p.group i (system.held c) e

      r : Result system.Box
      r = system.call c (in_bytes system e) a

      go : Does system p.Kept p.Carried i o r ⊎ Still c r → Keeps i r
      go (inl q) = (q.kept, sent-good o.sent r.frame q.frame)
      go (inr q) = (rw q.box k, inl q.frame)

  pub keeps : (i : ℕ) (c : system.Box) → p.Kept i c → (x : Input system.Handed (List ℕ)) (a : system.Areas) → InputGood x
      → Keeps i (ran system c x a)
  keeps i c k (Tick y) a g = message-keeps i c (Tick y) a k tt
  keeps i c k (Arrival []) a g = (k, inl refl)
  keeps i c k (Arrival (b ∷ bs)) a (inl e) = let z = ap length e in absurd (omega arith)
  keeps i c k (Arrival (b ∷ bs)) a (inr (m, e, w)) =
      subst (λ z. Keeps i (system.call c (Arrival z) a)) (sym e) (message-keeps i c (Arrival m) a k w)
  keeps i c k GiveUp a g = message-keeps i c GiveUp a k tt
