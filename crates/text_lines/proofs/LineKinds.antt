-- A line by its keyword: the first field, and what the line comes to by its kind.
use Prim.Native.Nat.{ℕ, ◌+◌, ◌≤◌}
use mathlib.Core.Path.{◌≡◌, refl, sym, ap, ◌∙◌}
use mathlib.Core.Bool.{Bool, true, false, cond}
use mathlib.Core.List.{List, ◌∷◌}
use native.Mathlib.Omega.{arith}
use lib.ListN.{length, drop, length-take}
use Rattle.std.specs.Prelude.{Result, Ok, Err}
use Rattle.program.specs.declared.reply.Fault.{Fault}
use Rattle.program.specs.Reply.{ill_formed}
use Rattle.program.specs.Lists.{between}
use Rattle.text.specs.Line.{up_to, parts, behind, tab}
use Rattle.text.specs.Name.{same}
use Rattle.text.proofs.Cuts.{parts_from, part_within}
use Rattle.text.proofs.Names.{same_equal}
use Rattle.text_lines.specs.declared.keyword.Kind.{Kind}
use Rattle.text_lines.specs.declared.keyword.Kind.TheVariants.{Pred, Func, Clause, Query, Other}
use Rattle.text_lines.specs.Keyword.{pred, func, clause, query, kind_of}
use Rattle.cells.specs.TextSoFar.{TextSoFar, wrong}
use Rattle.declarations.specs.declared.lined.Lined.{Lined}
use Rattle.declarations.specs.declared.lined.Lined.TheVariants.{More, Last}
use Rattle.declarations.specs.Declarations.{declaring, pred_line, func_line}
use Rattle.text_lines.specs.Lines.{clause_line, query_line, line_of, fields_of}
use Rattle.declarations.specs.Held.{more_of, Goes}
use Rattle.text_lines.specs.Goal.{last_of}

abbrev pub KindIs : List ℕ → Kind → Type 0
KindIs s Pred = s ≡ pred
KindIs s Func = s ≡ func
KindIs s Clause = s ≡ clause
KindIs s Query = s ≡ query
KindIs s Other = Unit {0}

-- a line whose first field is this keyword is of its kind, and any other of another
kind_or : (s keyword : List ℕ) (k rest : Kind) → (s ≡ keyword → KindIs s k) → KindIs s rest → KindIs s (cond (same s keyword) k rest)
kind_or s keyword k rest this other = go (same s keyword) refl
  where
    go : (t : Bool) → same s keyword ≡ t → KindIs s (cond t k rest)
    go true e = this (same_equal s keyword e)
    go false e = other

-- a line of a kind begins with its keyword
pub kind_is : (s : List ℕ) → KindIs s (kind_of s)
kind_is s =
    kind_or s pred Pred _ (λ e. e)
    (kind_or s func Func _ (λ e. e)
    (kind_or s clause Clause _ (λ e. e)
    (kind_or s query Query Other (λ e. e) tt)))

-- the first field ends at e
module _ (line : List ℕ) (e : ℕ) (ends : e ≡ 0 + length (up_to tab (drop 0 line))) where
  abbrev keyword : List ℕ
  keyword = between line 0 e

  pub first_within : e ≤ length line
  first_within = part_within tab line 0 e (omega arith) ends

  first_length : length keyword ≡ e
  first_length = let w = first_within in simp length-take (omega arith)

  fields_first : parts tab line ≡ keyword ∷ behind tab line e
  fields_first = parts_from tab line 0 e (omega arith) ends

  is_kind : {k : Kind} → kind_of keyword ≡ k → KindIs keyword k
  is_kind f = rw f at (kind_is keyword)

  pub pred_length : kind_of keyword ≡ Pred → e ≡ declaring
  pred_length f = sym first_length ∙ ap length (is_kind f)

  pub func_length : kind_of keyword ≡ Func → e ≡ declaring
  func_length f = sym first_length ∙ ap length (is_kind f)

  pub clause_length : kind_of keyword ≡ Clause → e ≡ length clause
  clause_length f = sym first_length ∙ ap length (is_kind f)

  pub query_length : kind_of keyword ≡ Query → e ≡ length query
  query_length f = sym first_length ∙ ap length (is_kind f)

  module _ (t : TextSoFar) (base : ℕ) where
    by_kind : {k : Kind} → kind_of keyword ≡ k → fields_of t base (parts tab line) ≡ line_of t base k (behind tab line e)
    by_kind f = ap (fields_of t base) fields_first ∙ ap (λ (k : Kind). line_of t base k (behind tab line e)) f

    pub line_pred : kind_of keyword ≡ Pred → fields_of t base (parts tab line) ≡ more_of (pred_line t base (behind tab line declaring))
    line_pred f = by_kind f ∙ ap (λ (n : ℕ). more_of (pred_line t base (behind tab line n))) (pred_length f)

    pub line_func : kind_of keyword ≡ Func → fields_of t base (parts tab line) ≡ more_of (func_line t base (behind tab line declaring))
    line_func f = by_kind f ∙ ap (λ (n : ℕ). more_of (func_line t base (behind tab line n))) (func_length f)

    pub line_clause : kind_of keyword ≡ Clause → fields_of t base (parts tab line) ≡ more_of (clause_line t base (behind tab line e))
    line_clause f = by_kind f

    pub line_query : kind_of keyword ≡ Query → fields_of t base (parts tab line) ≡ last_of (query_line t base (behind tab line e))
    line_query f = by_kind f

    pub line_other : kind_of keyword ≡ Other → fields_of t base (parts tab line) ≡ wrong ill_formed base
    line_other f = by_kind f

-- what keeps to a limit keeps to a larger one
pub goes_less : (most more : ℕ) (r : Result Lined Fault) → most ≤ more → Goes most r → Goes more r
goes_less most more (Err fault) h g = tt
goes_less most more (Ok (More c)) h g = (g.0, omega (arith, g.1))
goes_less most more (Ok (Last sizes)) h g = tt
