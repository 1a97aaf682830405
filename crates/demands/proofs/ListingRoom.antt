-- 181,276 bytes are room enough for every listing: 8 for its first line and 9 for its last, 11 for each shape and 17 for each of its cells, 33 for each row.
use Prim.Native.Nat.{ℕ, zero, suc, ◌+◌, ◌-◌, ◌*◌, ◌/◌, ◌%◌, ◌^◌, ◌≤◌, ◌<◌}
use native.Mathlib.Omega.{arith}
use native.Mathlib.Decide.{dec_lt}
use mathlib.Core.Path.{◌≡◌, refl, sym, ap, ◌∙◌}
use mathlib.Core.Bool.{Bool, true, false, cond}
use mathlib.Core.List.{List, [], ◌∷◌, ◌++◌, map, Memᴰ, append_assoc}
use lib.ListN.{length, length-append}
use Rattle.terms.specs.Term.{Term, same_term}
use Rattle.terms.specs.Cells.{enc, Atom, variables}
use Rattle.program.specs.Limits.{max_words, max_rows}
use Rattle.program.specs.Program.{Nth, here, there, Clause, Program, bodies}
use Rattle.program.specs.Within.{Each, none, more, after, modes_of, encode_atoms, encode_clauses, encode, WithinLimits}
use Rattle.program.specs.Shapes.{with, shape_of, distinct, shapes}
use Rattle.program.specs.Reply.{accepted, no_room}
use Rattle.program.proofs.Nths.{nth_below}
use Rattle.program.proofs.ProgramWords.{sound_within}
use Rattle.directory.proofs.Cuts.{each_nth}
use Rattle.directory.proofs.ShapeAtoms.{shape_atom, shape_length}
use Rattle.directory.proofs.PlacedLaws.{bodies_atoms}
use Rattle.table.specs.Rules.{Row, call, cont, solution}
use Rattle.table.specs.Table.{mode_analysis, Entry, room_in}
use Rattle.table.specs.Keys.{Regular, regular_call, regular_cont, regular_solution}
use Rattle.table.proofs.Tables.{rounds_below}
use Rattle.table.proofs.Promise.{modes_computes, more_than_length, no_room_more}
use Rattle.table.proofs.ShapeVariables.{within_few, shape_atom as atom-of-shape}
use Rattle.text.specs.Token.{digit0}
use Rattle.text.specs.Decimal.{decimal}
use Rattle.text.proofs.Decimals.{decimal_one, decimal_more}
use Rattle.written_lines.specs.Tokens.{atom_tokens, behind_tabs, line}
use Rattle.listing_lines.specs.Letters.{occurs_in, is_listed, letters_below, or_none, letters_of, letter}
use Rattle.listing_lines.specs.Lines.{shape_word, call_word, cont_word, sol_word, shape_line, shape_at, clause_at, row_line, dot}
use Rattle.lister.specs.Listing.{modes_word, end_word, version, shape_lines, row_lines, listing_of}
use Rattle.lister.specs.ListingPromise.{Rows}
use Rattle.lister.proofs.Replies.{rows_regular}
use Rattle.round_trips.proofs.Printed.{tabs_length, line_length}
use Rattle.round_trips.proofs.ReadNames.{SoundNames}
use Rattle.round_trips.proofs.WrittenNames.{names_sound}
use Rattle.round_trips.proofs.WrittenTokens.{atom_printed, atom_tokens_law}

-- numbers below a hundred have at most two digits, those below ten thousand at most four
one_more_digit : (m n : ℕ) → n < 2 ^ 64 → length (decimal (n / 10)) ≤ m → length (decimal n) ≤ suc m
one_more_digit m n small h = at (dec_lt n 10)
  where
    at : Dec (n < 10) → length (decimal n) ≤ suc m
    at (yes l) = rw (decimal_one n l) (omega arith)
    at (no g) =
        let more : length (decimal n) ≡ length (decimal (n / 10) ++ (digit0 + n % 10) ∷ []) = ap length (decimal_more n (omega arith) small) in
        omega (arith, h, more, length-append (decimal (n / 10)) ((digit0 + n % 10) ∷ []))

one_digit : (n : ℕ) → n < 10 → length (decimal n) ≤ 1
one_digit n h = rw (decimal_one n h) (omega arith)

two_digits : (n : ℕ) → n < 100 → length (decimal n) ≤ 2
two_digits n h = one_more_digit 1 n (omega arith) (one_digit (n / 10) (omega arith))

four_digits : (n : ℕ) → n < 10000 → length (decimal n) ≤ 4
four_digits n h = one_more_digit 3 n (omega arith) (one_more_digit 2 (n / 10) (omega arith) (two_digits (n / 10 / 10) (omega arith)))

-- a field behind its tab
field_length : (s : List ℕ) (ss : List (List ℕ)) → length (behind_tabs (s ∷ ss)) ≡ suc (length s + length (behind_tabs ss))
field_length s ss = ap suc (length-append s (behind_tabs ss))

module _ (names ps fs : List ℕ) (named : SoundNames names (length ps) (length fs)) where
  shape_bound : (s : ℕ) (S : Term) → s < 10000 → Atom ps fs S → length (shape_line names (length ps) s S) ≤ 11 + 17 * length (enc S)
  shape_bound s S few a =
      let tokens : List (List ℕ) = atom_tokens names (length ps) [] (enc S) in
      let cells : length (behind_tabs tokens) ≤ 17 * length tokens = tabs_length tokens (atom_printed names ps fs named [] S a) in
      let many : length tokens ≡ length (enc S) = atom_tokens_law names ps fs named [] (enc S) in
      let whole : length (shape_line names (length ps) s S) ≡ length shape_word + length (behind_tabs (decimal s ∷ tokens)) + 1 = line_length shape_word (decimal s ∷ tokens) in
      omega (arith, four_digits s few, field_length (decimal s) tokens)

  shapes_bound : (s : ℕ) (Ss : List Term) → s + length Ss ≤ 10000 → ((i : ℕ) (S : Term) → Nth Ss i S → Atom ps fs S)
      → length (shape_lines names (length ps) s Ss) ≤ 11 * length Ss + 17 * length (encode_atoms Ss)
  shapes_bound s [] few atoms = omega arith
  shapes_bound s (S ∷ Ss) few atoms =
      let first : length (shape_line names (length ps) s S) ≤ 11 + 17 * length (enc S) = shape_bound s S (omega arith) (atoms 0 S here) in
      let rest : length (shape_lines names (length ps) (suc s) Ss) ≤ 11 * length Ss + 17 * length (encode_atoms Ss)
      = shapes_bound (suc s) Ss (omega arith) (λ i T h. atoms (suc i) T (there h)) in
      omega (arith, first, rest, length-append (shape_line names (length ps) s S) (shape_lines names (length ps) (suc s) Ss), length-append (enc S) (encode_atoms Ss))

-- the shapes have no more cells than the atoms that they are the shapes of
with_cells : (l : List Term) (t : Term) → length (encode_atoms (with same_term l t)) ≤ length (encode_atoms l) + length (enc t)
with_cells [] t = omega (arith, length-append (enc t) [])
with_cells (u ∷ l) t = at (same_term t u) (with_cells l t)
  where
    at : (e : Dec (t ≡ u)) → length (encode_atoms (with same_term l t)) ≤ length (encode_atoms l) + length (enc t)
        → length (encode_atoms (elim e as (λ _. List Term) [ yes _ ↦ u ∷ l | no _ ↦ u ∷ with same_term l t ])) ≤ length (encode_atoms (u ∷ l)) + length (enc t)
    at (yes _) h = omega arith
    at (no _) h = omega (arith, h, length-append (enc u) (encode_atoms l), length-append (enc u) (encode_atoms (with same_term l t)))

distinct_cells : (ts seen : List Term) → length (encode_atoms (distinct seen ts)) ≤ length (encode_atoms seen) + length (encode_atoms ts)
distinct_cells [] seen = omega arith
distinct_cells (t ∷ ts) seen =
    omega (arith, distinct_cells ts (with same_term seen t), with_cells seen t, length-append (enc t) (encode_atoms ts))

bodies_cells : (cs : List Clause) → length (encode_atoms (bodies cs)) ≤ length (encode_clauses cs)
bodies_cells [] = omega arith
bodies_cells (c ∷ cs) =
    omega (
      arith,
      bodies_cells cs,
      ap length (append_atoms c.body (bodies cs)),
      length-append (encode_atoms c.body) (encode_atoms (bodies cs)),
      length-append (enc c.head) (encode_atoms c.body ++ encode_clauses cs),
      length-append (encode_atoms c.body) (encode_clauses cs),
    )
  where
    append_atoms : (ts us : List Term) → encode_atoms (ts ++ us) ≡ encode_atoms ts ++ encode_atoms us
    append_atoms [] us = refl
    append_atoms (t ∷ ts) us = ap (λ (l : List ℕ). enc t ++ l) (append_atoms ts us) ∙ sym (append_assoc (enc t) (encode_atoms ts) (encode_atoms us))

module _ (p : Program) (within : WithinLimits p) where
  -- each shape is an atom
  shape_sound : (i : ℕ) (S : Term) → Nth (shapes p) i S → Atom p.predicates p.functions S
  shape_sound i S h =
      let (A, e, a) = atom-of-shape p within h in
      rw e (shape_atom p.predicates p.functions within.predicates_most A a)

  renamed_cells : (ts : List Term) → Each (Atom p.predicates p.functions) ts → length (encode_atoms (map shape_of ts)) ≡ length (encode_atoms ts)
  renamed_cells [] none = refl
  renamed_cells (t ∷ ts) (more a each) =
      let first : length (enc (shape_of t)) ≡ length (enc t) = shape_length p.predicates p.functions within.predicates_most t a in
      let rest : length (encode_atoms (map shape_of ts)) ≡ length (encode_atoms ts) = renamed_cells ts each in
      omega (arith, length-append (enc (shape_of t)) (encode_atoms (map shape_of ts)), length-append (enc t) (encode_atoms ts))

  -- atoms stand in the words one behind another
  atoms_words : length (encode_atoms (p.goal ∷ bodies p.clauses)) ≤ length (encode p)
  unfolding encode
  atoms_words =
      let end : List ℕ = after 0 p.goal ∷ modes_of (after 0 p.goal) p.grounded in
      omega (
        arith,
        bodies_cells p.clauses,
        length-append (enc p.goal) (encode_atoms (bodies p.clauses)),
        length-append p.predicates (p.functions ++ (encode_clauses p.clauses ++ (enc p.goal ++ end))),
        length-append p.functions (encode_clauses p.clauses ++ (enc p.goal ++ end)),
        length-append (encode_clauses p.clauses) (enc p.goal ++ end),
        length-append (enc p.goal) end,
      )

  shapes_cells : length (encode_atoms (shapes p)) ≤ max_words
  shapes_cells =
      let atoms : List Term = p.goal ∷ bodies p.clauses in
      let each : Each (Atom p.predicates p.functions) atoms
      = more within.goal_atom (bodies_atoms p.predicates p.functions p.clauses within.clauses_within) in
      omega (arith, distinct_cells (map shape_of atoms) [], renamed_cells atoms each, atoms_words, within.words_most)

-- at most sixteen letters
letters_few : (has : ℕ → Bool) (mask : ℕ) → length (letters_of has mask) ≤ 16
letters_few has mask = none_or (letters_below has mask variables) (below variables)
  where
    one : (b : Bool) (l : ℕ) → length (cond b (l ∷ []) []) ≤ 1
    one true l = omega arith
    one false l = omega arith

    below : (n : ℕ) → length (letters_below has mask n) ≤ n
    below zero = omega arith
    below (suc n) =
        omega (arith, below n, one (has n) (letter mask n), length-append (letters_below has mask n) (cond (has n) (letter mask n ∷ []) []))

    none_or : (l : List ℕ) → length l ≤ 16 → length (or_none l) ≤ 16
    none_or [] h = omega arith
    none_or (b ∷ l) h = h

three_fields : (keyword a b c : List ℕ) → length (line keyword (a ∷ b ∷ c ∷ [])) ≡ length keyword + length a + length b + length c + 4
three_fields keyword a b c =
    omega (arith, line_length keyword (a ∷ b ∷ c ∷ []), field_length a (b ∷ c ∷ []), field_length b (c ∷ []), field_length c [])

module _ (p : Program) (within : WithinLimits p) where
  row_bound : (round : ℕ) (row : Row ℕ) → round < 10000 → Regular p row → length (row_line p round row) ≤ 33
  row_bound round (call s M) l (regular_call hs _ _) =
      omega (
        arith,
        three_fields call_word (decimal round) (decimal s) (letters_of (occurs_in (shape_at p s)) M),
        four_digits round l,
        four_digits s (omega (arith, nth_below hs, (within_few p within).shapes_few)),
        letters_few (occurs_in (shape_at p s)) M,
      )
  row_bound round (solution s M) l (regular_solution hs _ _) =
      omega (
        arith,
        three_fields sol_word (decimal round) (decimal s) (letters_of (occurs_in (shape_at p s)) M),
        four_digits round l,
        four_digits s (omega (arith, nth_below hs, (within_few p within).shapes_few)),
        letters_few (occurs_in (shape_at p s)) M,
      )
  row_bound round (cont n i M) l (regular_cont {k = k} {i = j} {c = c} hc hA _ _) =
      let clause : length (decimal (suc k)) ≤ 2 = two_digits (suc k) (omega (arith, nth_below hc, within.clauses_most)) in
      let place : length (decimal (suc j)) ≤ 2 = two_digits (suc j) (omega (arith, nth_below hA, (each_nth within.clauses_within hc).body)) in
      omega (
        arith,
        three_fields cont_word (decimal round) (decimal (suc k) ++ dot ∷ decimal (suc j)) (letters_of (is_listed (clause_at p (suc k)) (suc j - 1)) M),
        four_digits round l,
        length-append (decimal (suc k)) (dot ∷ decimal (suc j)),
        letters_few (is_listed (clause_at p (suc k)) (suc j - 1)) M,
      )

  rows_bound : (entries : List Entry) → ((e : Entry) → Memᴰ e entries → (e.round < 10000) × Regular p e.row) → length (row_lines p entries) ≤ 33 * length entries
  rows_bound [] h = omega arith
  rows_bound (e ∷ entries) h =
      let (l, r) = h e (Memᴰ.head refl) in
      omega (
        arith,
        row_bound e.round e.row l r,
        rows_bound entries (λ f m. h f (Memᴰ.tail m)),
        length-append (row_line p e.round e.row) (row_lines p entries),
      )

-- "The room in rows is .. at most 4,096."
rows_few : {words names : List ℕ} {size : ℕ} {table : List ℕ} {p : Program} {entries : List Entry} → Rows words names size table p entries → length entries ≤ max_rows
rows_few {words} {names} {size} {table} {p} {entries} w = at (dec_lt (room_in size) (length entries))
  where
    at : Dec (room_in size < length entries) → length entries ≤ max_rows
    at (yes l) =
        let none_left : accepted ≡ no_room = (no_room_more words size _ table p w.program w.analysed).1 ((more_than_length p entries w.rows (room_in size)).1 l) in
        absurd (omega arith)
    at (no g) = omega arith

-- so much room is enough for the listing of every table
pub listing_short : (words names : List ℕ) (size : ℕ) (table : List ℕ) (p : Program) (entries : List Entry)
    → Rows words names size table p entries → length (listing_of p names entries) ≤ 181276
listing_short words names size table p entries w =
    let within = sound_within words p w.program in
    let named = (names_sound names (length p.predicates) (length p.functions) names w.named).1 in
    let few = rows_few w in
    let shown : List ℕ = shape_lines names (length p.predicates) 0 (shapes p) in
    let first : List ℕ = line modes_word (decimal version ∷ []) in
    let last : List ℕ = line end_word (decimal (length entries) ∷ []) in
    omega (
      arith,
      few,
      (within_few p within).shapes_few,
      shapes_cells p within,
      shapes_bound names p.predicates p.functions named 0 (shapes p) (omega (arith, (within_few p within).shapes_few)) (shape_sound p within),
      rows_bound p within entries (λ e m. (omega (arith, few, rounds_below (mode_analysis p) (modes_computes p) entries w.rows e m), rows_regular w e m)),
      line_length end_word (decimal (length entries) ∷ []),
      field_length (decimal (length entries)) [],
      four_digits (length entries) (omega (arith, few)),
      length-append (first ++ shown ++ row_lines p entries) last,
      length-append (first ++ shown) (row_lines p entries),
      length-append first shown,
    )
