-- What is wrong with a first line of `rig`, for its message on standard error. Field k has k fields before it, as everywhere; what is said counts
-- them from 1.
use Rattle.std.specs.Prelude.{ℕ, zero, suc, ◌+◌, min, Bool, ◌&&◌, List, [], ◌∷◌, slice_get, eqb, leb, ltb, Option, Some, None, option_map, is_some, Result, Ok, Err}
use Rattle.lists.specs.Choice.{pick}
use Rattle.refusal.specs.declared.Refusal.{Refusal}
use Rattle.refusal.specs.declared.Refusal.TheVariants as Ground
use Rattle.replica.specs.declared.Settings as Group
use Rattle.replica.specs.Settings.{settings_refusal}
use Rattle.text.specs.Numbers.{number_of, is_whole}
use Rattle.line.specs.Fields.{spaces, field}
use Rattle.opening.specs.declared.Sizes.{Sizes}
use Rattle.opening.specs.declared.Unopened as Line
use Rattle.opening.specs.declared.wrong.Wrong.{Wrong}
use Rattle.opening.specs.declared.wrong.Wrong.TheVariants.{Field, Quorum, Fields, Refused}
use Rattle.opening.specs.Opening.{is_rig, size_in, sizes_in, sizes_refusal, starts_of, is_quorums, opened_by}

-- this word is what field k should be: `rig`, then four numbers from 0 to 255, then numbers within i32
unfoldable pub is_right : ℕ → List ℕ → Bool
is_right k word = pick (eqb k 0) (is_rig word) (pick (ltb k 5) (leb (size_in (number_of word)) 255) (is_whole (number_of word)))

-- of so many fields from field k on, the first that is not what it should be; k + count where each is
unfoldable pub first_wrong : List ℕ → ℕ → ℕ → ℕ
first_wrong line k zero = k
first_wrong line k (suc count) = pick (is_right k (field k line)) (first_wrong line (suc k) count) k

-- how many fields a line with these sizes needs; where they are none of a group, `rig` and the sizes
unfoldable pub needed : Sizes → ℕ
needed s = pick (is_some (sizes_refusal s)) 5 ((starts_of s.n s.m s.p).count + 5)

-- field k of so many is there, and is no number from 0 to 255
unfoldable pub wrong_quorum : List ℕ → (fields k : ℕ) → Bool
wrong_quorum line fields k = ltb k fields && ltb 255 (size_in (number_of (field k line)))

-- what is wrong behind so many fields that a line needs: where the next is the word `quorums`, three more are needed, the last two of them numbers from
-- 0 to 255; else how many fields there are
unfoldable pub wrong_end : List ℕ → (fields needs : ℕ) → Wrong
wrong_end line fields needs =
    pick (is_quorums (field needs line))
    (pick (wrong_quorum line fields (needs + 1)) (Quorum (needs + 2))
    (pick (wrong_quorum line fields (needs + 2)) (Quorum (needs + 3)) (Fields fields (needs + 3))))
    (Fields fields needs)

-- what is wrong with the form of a line that has so many fields: the first field that is there, is needed and is not what it should be, else what is
-- wrong behind them
unfoldable pub wrong_form : List ℕ → (fields needs : ℕ) → Wrong
wrong_form line fields needs =
    let k = first_wrong line 0 (min fields needs) in
    pick (ltb k (min fields needs)) (Field (suc k)) (wrong_end line fields needs)

-- the refusals, in the order of their numbers from 1 on
abbrev pub refusals : List Refusal
refusals =
    Ground.Group ∷ Ground.Sizes ∷ Ground.Coefficient ∷ Ground.Limits ∷ Ground.Area ∷ Ground.LastPeriod ∷ Ground.Mark ∷ Ground.Frame ∷ Ground.Sender
    ∷ Ground.Place ∷ Ground.Base ∷ Ground.LastView ∷ Ground.PageArea ∷ Ground.Page ∷ Ground.Record ∷ Ground.Missed ∷ Ground.Ticket ∷ Ground.Quorums
    ∷ []

-- the refusal with this number
unfoldable pub refusal_of : ℕ → Option Refusal
refusal_of zero = None
refusal_of (suc k) = slice_get refusals k

-- what is wrong with settings: their refusal
unfoldable pub wrong_settings : Group.Settings → Option Wrong
wrong_settings s = option_map Refused (refusal_of (settings_refusal s))

-- what is wrong with a line that opens this
unfoldable pub wrong_by : List ℕ → Result Group.Settings Line.Unopened → Option Wrong
wrong_by line (Ok s) = wrong_settings s
wrong_by line (Err (Line.TheVariants.Refused refusal)) = Some (Refused refusal)
wrong_by line (Err Line.TheVariants.Bad) = Some (wrong_form line (suc (spaces line)) (needed (sizes_in line)))

-- what is wrong with a line
unfoldable pub wrong_in : List ℕ → Option Wrong
wrong_in line = wrong_by line (opened_by line (sizes_in line))
