-- The answers to a place's atom, the fresh ones first, and what the cont rows of the place make with them: what rule 2 makes with a new row.
use Prim.Native.Nat.{ℕ, suc, ◌+◌, ◌≤◌, ◌<◌}
use native.Mathlib.Omega.{arith}
use native.Mathlib.Decide.{dec_lt}
use mathlib.Core.Path.{◌≡◌, sym, ap, subst, ◌∙◌}
use mathlib.Core.Logic.{◌⊎◌, inl, inr, ⊎_elim, ◌↔◌}
use mathlib.Core.List.Memᴰ
use mathlib.Core.List.{List, Memᴰ}
use lib.ListN.{length, take, get_or, replicate, length-replicate}
use Rattle.terms.specs.Term.{Term}
use Rattle.marks.specs.Pass.{Pass}
use Rattle.marks.specs.Modes.{modes, Together}
use Rattle.program.specs.Program.{Nth, Program}
use Rattle.program.specs.Shapes.{shapes}
use Rattle.program.specs.Limits.{max_rows}
use Rattle.program.proofs.ShapeLaws.{nth_same}
use Rattle.program.proofs.Nths.{nth_below}
use Rattle.rows.specs.Rows.{slots, slot_at, mask_at, keys_of}
use Rattle.rows.specs.MaskSet.{set_words, InSet}
use Rattle.rows.proofs.MaskSets.{none_in_zeros}
use Rattle.table.specs.Rules.{Row, cont, solution}
use Rattle.table.specs.Steps.{makes}
use Rattle.table.specs.NewRows.{NewReached}
use Rattle.table.specs.Keys.{first_cont, first_solution, body_index, row_at}
use Rattle.table.proofs.Keys.{cont_at, solution_at, clause_at_law, place_at_law}
use Rattle.steps.specs.Steps.{RowsIn}
use Rattle.steps.specs.Situation.{Situation, BodyOf}
use Rattle.joining.specs.Answers.{Listing, SetOf, Answer, Found, Stands, Parted}
use Rattle.joining.specs.Joined.{ContMarks, SlotChain, AnswersThere, ListedFrom, Answered}
use Rattle.steps.proofs.Bodies.{body_few}
use Rattle.steps.proofs.SlotRows.{at_slot, in_slot, older_row}

-- what is listed stands in the list
pub listing_within : {seen answers : List ℕ} {count : ℕ} → Listing seen answers count → count ≤ length answers
listing_within l = omega (arith, l.within, l.list_size)

-- the set has what is listed
pub listing_set : {seen answers : List ℕ} {count : ℕ} → Listing seen answers count → SetOf seen (take count answers)
listing_set l = record { set_size = l.set_size; small = l.small; same = l.same }

-- answers by other names of the list and its counts
pub answers_as : {answers answers' : List ℕ} {fresh fresh' all all' : ℕ} → answers ≡ answers' → fresh ≡ fresh' → all ≡ all' → AnswersThere answers' fresh' all' → AnswersThere answers fresh all
answers_as a f e there = rw a (rw f (rw e there))

pub answered_as : {p : Program} {table : List ℕ} {A : Term} {since rows newest : ℕ} {answers answers' : List ℕ} {fresh fresh' all all' : ℕ} → answers ≡ answers' → fresh ≡ fresh' → all ≡ all'
    → Answered p table A since rows newest (take fresh' answers') (take all' answers') → Answered p table A since rows newest (take fresh answers) (take all answers)
answered_as a f e h = rw a (rw f (rw e h))

-- nothing is listed yet
pub listing_none : (seen answers : List ℕ) → seen ≡ replicate set_words 0 → length answers ≡ max_rows → Listing seen answers 0
listing_none seen answers zeros size =
    record {
      set_size = rw zeros (length-replicate {A = ℕ} set_words 0);
      list_size = size;
      within = omega arith;
      small = λ q m. absurd (Memᴰ.not-nil m);
      same = λ q l. (λ h. absurd (none_in_zeros set_words q (subst (λ (s : List ℕ). InSet s q) zeros h)), λ m. absurd (Memᴰ.not-nil m));
      distinct = tt;
    }

-- the answers at the back were listed behind the fresh ones
module _ (p : Program) (table : List ℕ) (A : Term) (from since rows : ℕ) {seen answers seen' answers' : List ℕ} {fresh older all : ℕ} (parted : Parted p table A from since rows seen answers fresh older)
    (found : Found (Stands answers older max_rows) seen' answers' fresh all answers) where
  listed : (q : ℕ) → Memᴰ q (take fresh answers) ↔ Answer p table A since rows q
  listed q = (λ m. ⊎_elim (λ n. absurd (Memᴰ.not-nil n)) (λ a. a) ((parted.front.members q).0 m), λ a. (parted.front.members q).1 (inr a))

  settled_fresh : (q : ℕ) → Memᴰ q (take fresh answers') ↔ Answer p table A since rows q
  settled_fresh q = subst (λ (l : List ℕ). Memᴰ q l ↔ Answer p table A since rows q) (sym found.keeps) (listed q)

  module _ (new : since ≤ rows) (early : from ≤ since) where
    settled_are : (q : ℕ) → Memᴰ q (take all answers') ↔ Answer p table A from rows q
    settled_are q = (
      λ m.
          ⊎_elim (λ n. let (r, f, l, s, S, hs, e, t) = (listed q).0 n in (r, omega arith, l, s, S, hs, e, t))
          (λ n. let (r, f, l, s, S, hs, e, t) = (parted.back q).0 n in (r, f, omega arith, s, S, hs, e, t))
          ((found.members q).0 m),
      λ (r, f, l, s, S, hs, e, t). (found.members q).1 (at r f l s S hs e t (dec_lt r since)),
    )
      where
        at : (r : ℕ) → from ≤ r → r < rows → (s : ℕ) (S : Term) → Nth (shapes p) s S → slot_at table r ≡ first_solution + s → Pass S (mask_at table r) A 0 q → Dec (r < since)
            → Memᴰ q (take fresh answers) ⊎ Stands answers older max_rows q
        at r f l s S hs e t (yes k) = inr ((parted.back q).1 (r, f, k, s, S, hs, e, t))
        at r f l s S hs e t (no k) = inl ((listed q).1 (r, omega arith, l, s, S, hs, e, t))

    pub listed_from : ListedFrom p table A from since rows (take fresh answers') (take all answers')
    listed_from = record { fresh_are = settled_fresh; are = settled_are }

-- what is listed are all answers, where rows are passed from the first on as a cont row is new
pub all_answered : {p : Program} {table : List ℕ} {A : Term} {from since rows newest : ℕ} {fresh all : List ℕ} → ListedFrom p table A from since rows fresh all
    → (since < newest → from ≡ 0) → Answered p table A since rows newest fresh all
all_answered listed from_start =
    record {
      fresh_are = listed.fresh_are;
      all_are = λ q m. let (r, f, l, s, S, hs, e, t) = (listed.are q).0 m in (r, omega arith, l, s, S, hs, e, t);
      all_new = λ late q (r, f, l, s, S, hs, e, t). (listed.are q).1 (r, omega (arith, from_start late), l, s, S, hs, e, t);
    }

module _ {words dir table heads : List ℕ} {since rows j : ℕ} (w : Situation words dir table heads since rows) (b : BodyOf w.p j) where
  pub place_slot : first_cont + j < slots
  place_slot = let few = body_few w.setting b.nth_clause b.nth_atom in let e = b.is in omega arith

  -- the rows of the place's slot, and of a solution's
  cont_is : (r : ℕ) → slot_at table r ≡ first_cont + j → row_at w.p (slot_at table r) (mask_at table r) ≡ cont (suc b.k) (suc b.i) (mask_at table r)
  cont_is r e =
      let p = w.p in
      let few = body_few w.setting b.nth_clause b.nth_atom in
      ap (λ (s : ℕ). row_at p s (mask_at table r)) (e ∙ ap (λ (x : ℕ). first_cont + x) b.is)
      ∙ (cont_at p (body_index p b.k b.i) (mask_at table r) (omega arith)
      ∙ rw (clause_at_law p.clauses b.nth_clause b.i (nth_below b.nth_atom), place_at_law p.clauses b.nth_clause b.i (nth_below b.nth_atom)))

  solution_is : (r s : ℕ) → slot_at table r ≡ first_solution + s → row_at w.p (slot_at table r) (mask_at table r) ≡ solution s (mask_at table r)
  solution_is r s e = ap (λ (x : ℕ). row_at w.p x (mask_at table r)) e ∙ solution_at w.p s (mask_at table r)

  there_row : (n r : ℕ) (row : Row ℕ) → n ≤ rows → r < n → row_at w.p (slot_at table r) (mask_at table r) ≡ row → RowsIn w.p (keys_of table n) row
  there_row n r row l h e = subst (RowsIn w.p (keys_of table n)) e (at_slot w.p table heads since rows w.chains n r l h)

  new_row : (r : ℕ) (row : Row ℕ) → r < rows → since ≤ r → row_at w.p (slot_at table r) (mask_at table r) ≡ row → RowsIn w.p (keys_of table since) row → ⊥
  new_row r row h l e old = let k = older_row w.p table heads since rows w.chains r h (subst (RowsIn w.p (keys_of table since)) (sym e) old) in omega arith

  late_row : (r : ℕ) (row : Row ℕ) → row_at w.p (slot_at table r) (mask_at table r) ≡ row → (RowsIn w.p (keys_of table since) row → ⊥) → since ≤ r
  late_row r row e new = at (dec_lt r since)
    where
      at : Dec (r < since) → since ≤ r
      at (yes l) = absurd (new (there_row since r row w.chains.new l e))
      at (no l) = omega arith

  pub place_chain : SlotChain table (first_cont + j) rows (get_or heads (first_cont + j) 0)
  place_chain =
      record {
        head = w.chains.by_slot.from_heads (first_cont + j) (rw w.chains.all_heads place_slot);
        links = w.chains.by_slot.from_rows;
        fits = w.chains.fits;
      }

  -- a new row of the place is behind its head
  newer : (r : ℕ) → r < rows → slot_at table r ≡ first_cont + j → since ≤ r → since < get_or heads (first_cont + j) 0
  newer r l e late = at (dec_lt r (get_or heads (first_cont + j) 0))
    where
      at : Dec (r < get_or heads (first_cont + j) 0) → since < get_or heads (first_cont + j) 0
      at (yes k) = omega arith
      at (no k) = absurd (place_chain.head.last r (omega arith) l e)

  -- no row, and nothing made
  pub no_conts : get_or heads (first_cont + j) 0 ≡ 0 → (N : ℕ) → NewReached modes w.p (RowsIn w.p (keys_of table since)) (RowsIn w.p (keys_of table rows)) b.k (suc b.i) N → ⊥
  no_conts none N (M, s, L, row, _, _, _) =
      let (r, l, e, m) = in_slot w.p table heads since rows w.chains rows (cont (suc b.k) (suc b.i) M) (omega arith) row in
      place_chain.head.last r (omega arith) l (e ∙ ap (λ (x : ℕ). first_cont + x) (sym b.is))

  module _ (fresh all : List ℕ) (a : Answered w.p table b.A since rows (get_or heads (first_cont + j) 0) fresh all) where
    abbrev Made : ℕ → Type 0
    Made N = NewReached modes w.p (RowsIn w.p (keys_of table since)) (RowsIn w.p (keys_of table rows)) b.k (suc b.i) N

    made : (r q N : ℕ) → r < rows → slot_at table r ≡ first_cont + j → (x : Answer w.p table b.A 0 rows q) → (since ≤ r) ⊎ (since ≤ x.0) → Together (mask_at table r) q N → Made N
    made r q N l e (r', _, l', s, S, hs, e', passed) new joined = (
      mask_at table r,
      s,
      mask_at table r',
      there_row rows r _ (omega arith) l (cont_is r e),
      there_row rows r' _ (omega arith) l' (solution_is r' s e'),
      ⊎_elim (λ n. inl (new_row r _ l n (cont_is r e))) (λ n. inr (new_row r' _ l' n (solution_is r' s e'))) new,
      makes b.nth_clause b.nth_atom hs passed joined,
    )

    -- what the cont rows make with the answers is what rule 2 makes with a new row
    pub conts_reach : (N : ℕ) → ContMarks table fresh all (first_cont + j) rows since 0 N ↔ Made N
    conts_reach N = (to, from)
      where
        to : ContMarks table fresh all (first_cont + j) rows since 0 N → Made N
        to (r, f, l, e, inl (q, m, t)) = let (r', f', l', s, S, hs, e', pass) = (a.fresh_are q).0 m in made r q N l e (r', omega arith, l', s, S, hs, e', pass) (inr f') t
        to (r, f, l, e, inr (n, (q, m, t))) = made r q N l e (a.all_are q m) (inl n) t

        from : Made N → ContMarks table fresh all (first_cont + j) rows since 0 N
        from (M, s, L, row, row', new, makes {S = S} {Q = Q} hc hA hs passed joined) =
            let (r, l, e, m) = in_slot w.p table heads since rows w.chains rows (cont (suc b.k) (suc b.i) M) (omega arith) row in
            let (r', l', e', m') = in_slot w.p table heads since rows w.chains rows (solution s L) (omega arith) row' in
            let at : slot_at table r ≡ first_cont + j = e ∙ ap (λ (x : ℕ). first_cont + x) (sym b.is) in
            let same = nth_same (rw (nth_same hc b.nth_clause) at hA) b.nth_atom in
            let pass = subst (λ (x : ℕ). Pass S x b.A 0 Q) (sym m') (rw same at passed) in
            let t = subst (λ (x : ℕ). Together x Q N) (sym m) joined in (
              r,
              omega arith,
              l,
              at,
              ⊎_elim
                  (λ n.
                  let late = late_row r _ (cont_is r at ∙ ap (cont (suc b.k) (suc b.i)) m) n in
                  inr (late, (Q, a.all_new (newer r l at late) Q (r', omega arith, l', s, S, hs, e', pass), t)))
                  (λ n.
                  let late = late_row r' _ (solution_is r' s e' ∙ ap (solution s) m') n in
                  inl (Q, (a.fresh_are Q).1 (r', late, l', s, S, hs, e', pass), t))
                  new,
            )
