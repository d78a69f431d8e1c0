-- A line that is written reads as the entry that it shows: `line_reads`. Assumes nothing.
use mathlib.Core.Path.{◌≡◌, refl, sym, ap, ◌∙◌, subst}
use mathlib.Core.Bool.{true, false, not}
use mathlib.Core.List.{List, [], ◌∷◌, ◌++◌, append_assoc}
use Prim.Native.Nat.{ℕ, zero, suc, ◌+◌, ◌*◌, ◌-◌, ◌%◌, ◌≤◌, ◌<◌, ◌^◌}
use native.Mathlib.Omega.{arith}
use lib.IntN.{ℤ, pos, negsuc}
use Rattle.std.specs.Prelude.{Option, None, Some, IfSome}
use Rattle.std.specs.Option.{option_map}
use lib.ListN.{length, take, drop, get_or, length-append, get_or-append}
use lib.Seq.{take_at, drop_at, get_or-append-add, get_or-append_seam, length-take-le, get_or-take}
use mir.Syntax.{w32}
use mir.Val.{SFits}
use borrow.Author.Tests.{eq-eqb, ne_eqb}
use Rattle.lists.specs.Choice.{pick}
use Rattle.lists.specs.I32.{AllI32}
use Rattle.lists.specs.Places.{entry, filled}
use Rattle.lists.proofs.Choice.{pick_true, pick-false}
use Rattle.lists.proofs.Places.{filled-same}
use Rattle.octets.specs.Words.{part}
use Rattle.text.specs.Printing.{decimal, signed}
use Rattle.text.specs.Numbers.{magnitude, size_in, number_of, value_in}
use Rattle.text.proofs.PrintingLengths.{decimal-length, signed-length}
use Rattle.text.proofs.RoundTrip.{decimal-leads, decimal-ends, magnitude-printed, reads-printed}
use Rattle.pages.specs.declared.entries.Entry.{Entry}
use Rattle.pages.specs.Entries.{Typed, shown}
use Rattle.pages.specs.Line.{spaces, right, command_columns, hyphen, command_shown, commands_shown, line_text, to_the_end, line_bytes}
use Rattle.pages.specs.Reading.{unspaced, count_at, value_at, decided_in, entry_in}
use Rattle.pages.proofs.ColumnLaws.{right-length, commands-length}

-- ---- a part between others

pub part-between : (a m b : List ℕ) (i k : ℕ) → length a ≡ i → length m ≡ k → part (a ++ (m ++ b)) i k ≡ m
part-between a m b i k la lm = ap (take k) (drop_at a (m ++ b) i la) ∙ take_at m b k lm

-- ---- columns that hold a number

-- bytes that begin with none of the spaces that stand on their left
record Starts (bytes : List ℕ) : Type 0 where
  b : ℕ
  rest : List ℕ
  is : bytes ≡ b ∷ rest
  other : b ≡ 32 → ⊥

unspaced-first : (bytes : List ℕ) → Starts bytes → unspaced bytes ≡ bytes
unfolding unspaced
unspaced-first bytes s = ap unspaced s.is ∙ pick-false _ _ _ (ne_eqb _ _ s.other) ∙ sym s.is

unspaced-spaces : (n : ℕ) (bytes : List ℕ) → Starts bytes → unspaced (spaces n ++ bytes) ≡ bytes
unfolding unspaced
unspaced-spaces zero bytes s = unspaced-first bytes s
unspaced-spaces (suc n) bytes s = pick_true _ _ _ (eq-eqb 32 32 refl) ∙ unspaced-spaces n bytes s

unspaced-right : (columns : ℕ) (bytes : List ℕ) → Starts bytes → unspaced (right columns bytes) ≡ bytes
unfolding right
unspaced-right columns bytes s = unspaced-spaces (columns - length bytes) bytes s

decimal-starts : (n : ℕ) → n < 2 ^ 32 → Starts (decimal n)
decimal-starts n h =
    let l = decimal-leads n (omega arith) in
    record { b = 48 + l.d; rest = l.rest; is = l.is; other = λ z. omega arith }

signed-starts : (z : ℤ) → SFits w32 z → Starts (signed z)
unfolding signed
signed-starts (pos n) s = let h : n < 2147483648 = s.sfits in decimal-starts n (omega arith)
signed-starts (negsuc k) s = record { b = 45; rest = decimal (suc k); is = refl; other = λ z. omega arith }

count-in-columns : (n : ℕ) → n < 2 ^ 32 → size_in (magnitude (unspaced (right 10 (decimal n)))) ≡ n
count-in-columns n h =
    ap (λ (l : List ℕ). size_in (magnitude l)) (unspaced-right 10 (decimal n) (decimal-starts n h)) ∙ ap size_in (magnitude-printed n (omega arith))

value-in-columns : (z : ℤ) → SFits w32 z → value_in (number_of (unspaced (right 12 (signed z)))) ≡ z
value-in-columns z s =
    ap (λ (l : List ℕ). value_in (number_of l)) (unspaced-right 12 (signed z) (signed-starts z s)) ∙ ap value_in (reads-printed z s)

-- ---- the last column

last_of : (before : List ℕ) (b : ℕ) (k : ℕ) → length (before ++ (b ∷ [])) ≡ suc k → get_or (before ++ (b ∷ [])) k 0 ≡ b
last_of before b k e =
    let l : k ≡ length before = omega (arith, length-append before (b ∷ [])) in
    ap (λ (i : ℕ). get_or (before ++ (b ∷ [])) i 0) l ∙ get_or-append_seam before b [] 0

-- what ends with a byte has it in its last column
right-last : (before : List ℕ) (b : ℕ) → length (before ++ (b ∷ [])) ≤ 12 → get_or (right 12 (before ++ (b ∷ []))) 11 0 ≡ b
unfolding right
right-last before b h =
    let left : List ℕ = spaces (12 - length (before ++ (b ∷ []))) in
    let whole : left ++ (before ++ (b ∷ [])) ≡ (left ++ before) ++ (b ∷ []) = sym (append_assoc left before (b ∷ [])) in
    let size = right-length 12 (before ++ (b ∷ [])) h in
    ap (λ (l : List ℕ). get_or l 11 0) whole ∙ last_of (left ++ before) b 11 (ap length (sym whole) ∙ size)

-- and that of a number is a digit, no hyphen
right-signed : (z : ℤ) → get_or (right 12 (signed z)) 11 0 ≡ 45 → ⊥
unfolding signed
right-signed (pos n) e =
    let d = decimal-ends n in
    let last = right-last d.before (48 + n % 10) (omega (arith, ap length d.is, decimal-length n)) in
    omega (arith, sym last ∙ ap (λ (l : List ℕ). get_or (right 12 l) 11 0) (sym d.is) ∙ e)
right-signed (negsuc k) e =
    let d = decimal-ends (suc k) in
    let last = right-last (45 ∷ d.before) (48 + suc k % 10) (omega (arith, ap length d.is, decimal-length (suc k))) in
    omega (arith, sym last ∙ ap (λ (l : List ℕ). get_or (right 12 (45 ∷ l)) 11 0) (sym d.is) ∙ e)

-- ---- the parts of a line

module _ (p : ℕ) (e : Entry) where
  abbrev front : List ℕ
  front = right 10 (decimal e.period) ++ (32 ∷ [])

  abbrev middle : List ℕ
  middle = front ++ (right 10 (decimal e.view) ++ (32 ∷ []))

  abbrev behind : List ℕ
  behind = spaces (72 - length (line_text p e)) ++ (10 ∷ [])

  front_length : length front ≡ 11
  front_length =
      omega (arith, length-append (right 10 (decimal e.period)) (32 ∷ []), right-length 10 (decimal e.period) (decimal-length e.period))

  middle-length : length middle ≡ 22
  middle-length =
      omega (
        arith,
        front_length,
        length-append front (right 10 (decimal e.view) ++ (32 ∷ [])),
        length-append (right 10 (decimal e.view)) (32 ∷ []),
        right-length 10 (decimal e.view) (decimal-length e.view),
      )

  -- the line from its period on, from its view on, and from its commands on
  from-period : line_bytes p e ≡ right 10 (decimal e.period) ++ (((32 ∷ right 10 (decimal e.view)) ++ (32 ∷ commands_shown p e)) ++ behind)
  unfolding line_bytes to_the_end line_text
  from-period = simp append_assoc refl

  from_view : line_bytes p e ≡ front ++ (right 10 (decimal e.view) ++ ((32 ∷ commands_shown p e) ++ behind))
  unfolding line_bytes to_the_end line_text
  from_view = simp append_assoc refl

  from-commands : line_bytes p e ≡ middle ++ (commands_shown p e ++ behind)
  unfolding line_bytes to_the_end line_text
  from-commands = simp append_assoc refl

  -- ---- what is read of it

  reads-period : e.period < 2 ^ 32 → count_at (line_bytes p e) 0 ≡ e.period
  unfolding count_at
  reads-period h =
      ap (λ (l : List ℕ). size_in (magnitude (unspaced (part l 0 10)))) from-period
      ∙ ap (λ (l : List ℕ). size_in (magnitude (unspaced l)))
      (part-between [] (right 10 (decimal e.period)) _ 0 10 refl (right-length 10 (decimal e.period) (decimal-length e.period)))
      ∙ count-in-columns e.period h

  reads-view : e.view < 2 ^ 32 → count_at (line_bytes p e) 11 ≡ e.view
  unfolding count_at
  reads-view h =
      ap (λ (l : List ℕ). size_in (magnitude (unspaced (part l 11 10)))) from_view
      ∙ ap (λ (l : List ℕ). size_in (magnitude (unspaced l)))
      (part-between front (right 10 (decimal e.view)) _ 11 10 front_length (right-length 10 (decimal e.view) (decimal-length e.view)))
      ∙ count-in-columns e.view h

  -- the last column of the first command
  column-33 : get_or (line_bytes p e) 33 0 ≡ get_or (commands_shown p e ++ behind) 11 0
  column-33 =
      let at : 33 ≡ length middle + 11 = omega (arith, middle-length) in
      ap (λ (l : List ℕ). get_or l 33 0) from-commands
      ∙ ap (λ (i : ℕ). get_or (middle ++ (commands_shown p e ++ behind)) i 0) at
      ∙ get_or-append-add middle (commands_shown p e ++ behind) 11 0

  -- command j of the first p
  columns-at : (values : List ℤ) (j : ℕ) → j < length values
      → command_columns values ≡ command_columns (take j values) ++ (right 12 (signed (entry values j)) ++ command_columns (drop (suc j) values))
  unfolding command_columns
  columns-at [] j h = absurd (omega arith)
  columns-at (z ∷ zs) zero h = refl
  columns-at (z ∷ zs) (suc j) h =
      ap (λ (l : List ℕ). right 12 (signed z) ++ l) (columns-at zs j (omega arith)) ∙ sym (append_assoc (right 12 (signed z)) _ _)

  module _ (some : 1 ≤ p) (few : p ≤ 4) (t : Typed e) where
    -- there is no command
    module _ (is : e.command ≡ None) where
      shown-hyphen : commands_shown p e ≡ right 12 (45 ∷ [])
      unfolding commands_shown command_shown hyphen
      shown-hyphen = ap (command_shown p) is

      reads-hyphen : decided_in (line_bytes p e) ≡ false
      unfolding decided_in
      reads-hyphen =
          let column : get_or (line_bytes p e) 33 0 ≡ 45 =
          column-33
          ∙ ap (λ (l : List ℕ). get_or (l ++ behind) 11 0) shown-hyphen
          ∙ get_or-append (right 12 (45 ∷ [])) behind 0 11 (omega (arith, right-length 12 (45 ∷ []) (omega arith)))
          ∙ right-last [] 45 (omega arith) in
          ap not (eq-eqb _ 45 column)

    -- there is one
    module _ (c : List ℤ) (is : e.command ≡ Some c) where
      four : length c ≡ 4
      four = subst (λ (o : Option (List ℤ)). IfSome o (λ v. length v ≡ 4)) is t.places

      fits : AllI32 c
      fits = subst (λ (o : Option (List ℤ)). IfSome o AllI32) is t.values

      abbrev values : List ℤ
      values = take p c

      values_length : length values ≡ p
      values_length = length-take-le p c (omega (arith, four))

      shown-decided : commands_shown p e ≡ command_columns values
      unfolding commands_shown command_shown
      shown-decided = ap (command_shown p) is

      reads-value : (j : ℕ) → j < p → value_at (line_bytes p e) j ≡ entry c j
      unfolding value_at
      reads-value j h =
          ap (λ (l : List ℕ). value_in (number_of (unspaced (part l (22 + 12 * j) 12)))) whole
          ∙ ap (λ (l : List ℕ). value_in (number_of (unspaced l))) (part-between (middle ++ before) here _ (22 + 12 * j) 12 start (right-length 12 (signed z) (omega (arith, signed-length z))))
          ∙ value-in-columns z (subst (SFits w32) (sym same) (fits j))
          ∙ same
        where
          z : ℤ
          z = entry values j

          same : z ≡ entry c j
          same = get_or-take p c j (pos 0) h

          before : List ℕ
          before = command_columns (take j values)

          here : List ℕ
          here = right 12 (signed z)

          after : List ℕ
          after = command_columns (drop (suc j) values)

          start : length (middle ++ before) ≡ 22 + 12 * j
          start =
              omega (
                arith,
                length-append middle before,
                middle-length,
                commands-length (take j values),
                length-take-le j values (omega (arith, values_length)),
              )

          whole : line_bytes p e ≡ (middle ++ before) ++ (here ++ (after ++ behind))
          whole =
              from-commands
              ∙ ap (λ (l : List ℕ). middle ++ (l ++ behind)) (shown-decided ∙ columns-at values j (omega (arith, values_length)))
              ∙ simp append_assoc refl

      reads-decided : decided_in (line_bytes p e) ≡ true
      unfolding decided_in command_columns
      reads-decided =
          let z = entry values 0 in
          let column : get_or (line_bytes p e) 33 0 ≡ get_or (right 12 (signed z)) 11 0 =
          column-33
          ∙ ap (λ (l : List ℕ). get_or (l ++ behind) 11 0) (shown-decided ∙ columns-at values 0 (omega (arith, values_length)))
          ∙ ap (λ (l : List ℕ). get_or l 11 0) {y = right 12 (signed z) ++ (command_columns (drop 1 values) ++ behind)} (append_assoc (right 12 (signed z)) _ behind)
          ∙ get_or-append (right 12 (signed z)) _ 0 11 (omega (arith, right-length 12 (signed z) (omega (arith, signed-length z)))) in
          ap not (ne_eqb _ 45 (λ h. right-signed z (sym column ∙ h)))

    -- the entry that it shows
    pub line_reads : entry_in p (line_bytes p e) ≡ shown p e
    unfolding entry_in shown
    line_reads =
        rw (reads-period t.period, reads-view t.view)
        (ap (λ (o : Option (List ℤ)). record { period = e.period; view = e.view; command = o }) (by e.command refl))
      where
        by : (o : Option (List ℤ)) → e.command ≡ o
            → pick (decided_in (line_bytes p e)) (Some (filled (pos 0) 4 p (value_at (line_bytes p e)))) None
            ≡ option_map (λ c. filled (pos 0) 4 p (entry c)) o
        by (Some c) is = pick_true _ _ _ (reads-decided c is) ∙ ap Some (filled-same (pos 0) 4 p _ _ (λ i h k. reads-value c is i h))
        by None is = pick-false _ _ _ (reads-hyphen is)
