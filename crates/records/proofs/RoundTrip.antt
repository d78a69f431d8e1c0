-- The laws of records, both ways: what is recorded is read again, and what is read is recorded again. Assumes nothing.
use mathlib.Core.Path.{◌≡◌, sym, ap, ◌∙◌, subst}
use mathlib.Core.Bool.{true, false, false≢true}
use mathlib.Core.List.{List}
use Prim.Native.Nat.{ℕ}
use Rattle.octets.specs.Words.{AllBytes}
use Rattle.replica.specs.declared.Replica.{Replica}
use Rattle.records.specs.Recording.{record_bytes}
use Rattle.records.specs.Reading.{is_record, replica_in}
use Rattle.records.specs.InOrder.{InOrder}
use Rattle.records.proofs.Facts.{RecordFacts, record-holds}
use Rattle.records.proofs.Forth.{forth-facts, forth}
use Rattle.records.proofs.Back.{back, back-in-order}

-- the bytes of a replica in order are a record
pub recorded-is-record : (r : Replica) → InOrder r → is_record (record_bytes r) ≡ true
recorded-is-record r o = record-holds (record_bytes r) (subst (λ (t : Replica). RecordFacts t (record_bytes r)) (sym (forth r o)) (forth-facts r o))

-- (a) and the replica that is read of them is the very replica
pub recorded-read : (r : Replica) → InOrder r → replica_in (record_bytes r) ≡ r
recorded-read r o = forth r o

-- (b) What is read of a record, recorded, gives the very bytes.
pub read-recorded : (b : List ℕ) → AllBytes b → is_record b ≡ true → record_bytes (replica_in b) ≡ b
read-recorded b h e = back b h e

-- and is in order
pub read-in-order : (b : List ℕ) → AllBytes b → is_record b ≡ true → InOrder (replica_in b)
read-in-order b h e = back-in-order b h e

-- (c) Bytes that are no record are the record of no replica in order.
pub refused-no-record : (b : List ℕ) → is_record b ≡ false → (r : Replica) → InOrder r → record_bytes r ≡ b → ⊥
refused-no-record b n r o e = false≢true (sym n ∙ ap is_record (sym e) ∙ recorded-is-record r o)
