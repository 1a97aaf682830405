-- The walk over the cells of so many terms: what is left of them, cell by cell.
use Prim.Native.Nat.{ℕ, ◌+◌, ◌-◌, ◌≤◌, ◌<◌}
use mathlib.Core.Path.{◌≡◌, refl, sym, ap, ◌∙◌}
use mathlib.Core.List.{List, ◌∷◌, ◌++◌}
use native.Mathlib.Omega.{arith}
use lib.ListN.{length, get_or, take, drop, length-append, length-drop}
use lib.Seq.{take_all}
use borrow.Author.Tests.{lt-ltb, le-ltb}
use Rattle.terms.specs.Term.{Terms, var, app, nil, cons, count, join}
use Rattle.terms.specs.Cells.{first_variable, encs, Keepss, Run}
use Rattle.terms.proofs.Steps.{encs_join, keeps_join, count_join, cells_many}
use Rattle.directory.proofs.Cuts.{word_within, word_at, word_behind}
use Rattle.written_lines.specs.Walked.{arity_of}

-- so many terms are left from place i on, of all the cells and of these that are written
pub record Left (functions cells all rest : List ℕ) (i left : ℕ) : Type 0 where
  pub terms : Terms
  pub cut : drop i cells ≡ encs terms ++ rest
  pub to_write : drop i all ≡ encs terms
  pub keeps : Keepss functions terms
  pub many : count terms ≡ left
  pub within : i ≤ length cells
  pub place : i ≤ length all

pub left_first : {functions cells : List ℕ} {n : ℕ} (a : Run functions cells n) → Left functions cells (encs a.terms) a.rest 0 n
left_first a =
    record { terms = a.terms; cut = a.cut; to_write = refl; keeps = a.keeps; many = a.many; within = omega arith; place = omega arith }

-- the cell that comes next, and what is left behind it
pub record Next (functions cells all rest : List ℕ) (i left : ℕ) : Type 0 where
  pub inside : i < length cells
  pub of_all : i < length all
  pub same : get_or all i 0 ≡ get_or cells i 0
  pub declared : get_or cells i 0 < first_variable → get_or cells i 0 < length functions
  pub on : Left functions cells all rest (i + 1) (left - 1 + arity_of functions (get_or cells i 0))

module _ (functions cells all rest : List ℕ) (i left : ℕ) where
  pub left_next : Left functions cells all rest i left → 0 < left → Next functions cells all rest i left
  left_next l h = go l.terms l.cut l.to_write l.keeps l.many
    where
      -- a cell with so many terms behind it
      by : (w : ℕ) (ts : Terms) → drop i cells ≡ w ∷ encs ts ++ rest → drop i all ≡ w ∷ encs ts → Keepss functions ts
          → (w < first_variable → w < length functions) → count ts ≡ left - 1 + arity_of functions w → Next functions cells all rest i left
      by w ts e f k d m =
          let at = word_at cells i w (encs ts ++ rest) e in
          let n = word_within cells i w (encs ts ++ rest) e in
          let n' = word_within all i w (encs ts) f in
          record {
            inside = n;
            of_all = n';
            same = word_at all i w (encs ts) f ∙ sym at;
            declared = rw at d;
            on = record {
              terms = ts;
              cut = word_behind cells i w (encs ts ++ rest) e;
              to_write = word_behind all i w (encs ts) f;
              keeps = k;
              many = rw at m;
              within = omega arith;
              place = omega arith;
            };
          }

      go : (ts : Terms) → drop i cells ≡ encs ts ++ rest → drop i all ≡ encs ts → Keepss functions ts → count ts ≡ left → Next functions cells all rest i left
      go nil e f k m = absurd (omega arith)
      go (cons (var v) ts) e f k m =
          by (first_variable + v) ts e f k.1 (λ b. absurd (omega arith))
          (rw (le-ltb (first_variable + v) first_variable (omega arith)) (omega arith))
      go (cons (app g us) ts) e f k m =
          by g (join us ts) (e ∙ ap (λ (cs : List ℕ). g ∷ cs ++ rest) (sym (encs_join us ts))) (f ∙ ap (λ (cs : List ℕ). g ∷ cs) (sym (encs_join us ts)))
          (keeps_join functions us ts k.0.3 k.1) (λ b. k.0.0)
          (rw (lt-ltb g first_variable k.0.1) (omega (arith, count_join us ts, k.0.2)))

  -- no more terms than cells
  pub left_most : Left functions cells all rest i left → left ≤ length cells
  left_most l = let e = ap length l.cut in omega (arith, length-drop i cells, length-append (encs l.terms) rest, cells_many l.terms, l.many)

  module _ (l : Left functions cells all rest i left) (h : left ≤ 0) where
    none : l.terms ≡ nil
    none = by l.terms l.many
      where
        by : (ts : Terms) → count ts ≡ left → ts ≡ nil
        by nil e = refl
        by (cons t ts) e = absurd (omega arith)

    -- all is written
    pub left_none : take i all ≡ all
    left_none = let e = ap length (l.to_write ∙ ap encs none) in take_all i all (omega (arith, length-drop i all))

    pub left_rest : drop i cells ≡ rest
    left_rest = l.cut ∙ ap (λ (ts : Terms). encs ts ++ rest) none
