-- What reading finds, one condition after the other: callers need not open the definitions. Assumes nothing.
use mathlib.Core.Path.{◌≡◌, sym, ap}
use mathlib.Core.Bool.{Bool, true, false, ◌&&◌}
use mathlib.Core.List.{List}
use Prim.Native.Nat.{ℕ}
use lib.Dec.{eqb}
use lib.ListN.{length}
use borrow.Author.Tests.{eqb-true}
use Rattle.lists.proofs.Booleans.{both}
use Rattle.lists.proofs.Choice.{pick_true, pick-false, pick-holds}
use Rattle.scram.specs.Answers.{Done, Refused}
use Rattle.replica.specs.declared.Settings.{Settings}
use Rattle.replica.specs.Settings.{settings_refusal, blank_settings}
use Rattle.replica.specs.Calls.{fresh_of}
use Rattle.records.specs.Lengths.{settings_length, record_length}
use Rattle.records.specs.SettingsPart.{settings_in}
use Rattle.records.specs.HeldPart.{held_at}
use Rattle.records.specs.Reading.{is_done, replica_in, layout_ok, settings_ok, held_ok, is_record, read_answer, read_replica}

module _ (b : List ℕ) where
  -- bytes of the layout have a record's length
  pub layout-length : layout_ok b ≡ true → length b ≡ record_length
  unfolding layout_ok
  layout-length e = eqb-true (length b) record_length (both _ _ e).0

  pub no-layout : layout_ok b ≡ false → is_record b ≡ false
  unfolding is_record
  no-layout e = rw e

  -- ---- the answer, and the replica

  pub read-refused : is_record b ≡ false → (read_answer b ≡ Refused 15) × (read_replica b ≡ fresh_of blank_settings)
  unfolding read_replica
  read-refused e = (pick-false (is_record b) Done (Refused 15) e, pick-false (is_record b) (replica_in b) (fresh_of blank_settings) e)

  pub read_done : is_record b ≡ true → (read_answer b ≡ Done) × (read_replica b ≡ replica_in b)
  unfolding read_replica
  read_done e = (pick_true (is_record b) Done (Refused 15) e, pick_true (is_record b) (replica_in b) (fresh_of blank_settings) e)

  -- reading is done exactly where the bytes are a record
  pub read-is-done : is_done (read_answer b) ≡ is_record b
  read-is-done = pick-holds (λ a. is_done a ≡ is_record b) (is_record b) Done (Refused 15) (λ e. sym e) (λ e. sym e)

  -- the settings in a record stand
  pub record-stands : is_record b ≡ true → settings_refusal (replica_in b).settings ≡ 0
  unfolding is_record settings_ok
  record-stands e = eqb-true _ _ (both (settings_ok b) _ (both (layout_ok b) _ e).1).0

  -- what reading looks at behind the layout: the settings s in the record, and what is held
  abbrev pub parts : Settings → Bool
  parts s = eqb (settings_refusal s) 0 && held_ok s.boxes s.law.n s.law.m (held_at b settings_length) b

  -- bytes of the layout are a record exactly where both are as they may be
  pub parts-record : layout_ok b ≡ true → parts (settings_in b) ≡ is_record b
  unfolding is_record settings_ok
  parts-record e = sym (ap (λ x. x && parts (settings_in b)) e)
