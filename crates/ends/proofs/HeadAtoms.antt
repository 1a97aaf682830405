-- A clause where the directory says that it stands: its head, and its first body atom with its variables in order.
use Prim.Native.Nat.{ℕ, suc, ◌+◌, ◌≤◌, ◌<◌}
use native.Mathlib.Omega.{arith}
use mathlib.Core.Path.{◌≡◌}
use mathlib.Core.List.{List}
use lib.ListN.{length, get_or}
use Rattle.std.specs.Prelude.{Option}
use Rattle.terms.specs.Term.{Term}
use Rattle.terms.specs.Mask.{Marks}
use Rattle.marks.specs.Modes.{InOrder}
use Rattle.program.specs.Program.{Nth}
use Rattle.program.specs.Shapes.{number}
use Rattle.program.proofs.Nths.{nth_below, below_nth}
use Rattle.directory.specs.Layout.{clause_head, clause_cells, clause_vars, clause_first}
use Rattle.table.specs.Keys.{body_index}
use Rattle.steps.proofs.Bodies.{first_body}
use Rattle.joining.specs.Bodies.{BodyIn}
use Rattle.calling.proofs.ShapeVisits.{head_stands, head_variables}
use Rattle.ends.specs.declared.heads.Opening.{Opening}
use Rattle.ends.specs.AtHead.{FirstAtom, NoAtom, OpensAt, ClauseAsked, HeadKnown}

module _ {words dir : List ℕ} {k : ℕ} (a : ClauseAsked words dir k) (first end : ℕ) (is_first : first ≡ get_or dir (clause_first + k) 0) (is-end : end ≡ get_or dir (clause_first + k + 1) 0) where
  body_length : end ≡ first + length a.c.body
  body_length =
      let e : clause_first + k + 1 ≡ clause_first + suc k = omega arith in
      rw (is-end, is_first, e) (a.setting.directory.clause a.nth_clause).first_next

  pub no_atom : end ≤ first → NoAtom a.c
  no_atom l A hA = omega (arith, nth_below hA, body_length)

  module _ (some : first < end) where
    pub first_there : (A : Term) × Nth a.c.body 0 A
    first_there = below_nth a.c.body 0 (omega (arith, body_length))

    pub is_index : first ≡ body_index a.p k 0
    is_index = let l = nth_below a.nth_clause in omega (arith, is_first, first_body a.setting k (omega arith))

    abbrev pub first_in : BodyIn words dir first
    first_in =
        record {
          p = a.p;
          setting = a.setting;
          body = record { k = k; i = 0; c = a.c; A = first_there.0; nth_clause = a.nth_clause; nth_atom = first_there.1; is = is_index };
        }

    pub first_atom : {order : List ℕ} {count : ℕ} → InOrder first_there.0 (number first_there.0) order count → FirstAtom a.p k a.c first order count
    first_atom o = record { A = first_there.0; nth_atom = first_there.1; is = is_index; in_order = o }

  pub head_known : {start cells there : ℕ} {opening : Option Opening} → start ≡ get_or dir (clause_head + k) 0 → cells ≡ get_or dir (clause_cells + k) 0
      → (there < 65536) × Marks (λ v. v < get_or dir (clause_vars + k) 0) there → OpensAt a.p k a.c opening
      → HeadKnown words a.p k a.c (record { at = record { start = start; cells = cells }; there = there; opening = opening })
  head_known e f (small, m) opens =
      record {
        stands = head_stands a.setting a.nth_clause e f;
        head_variables = head_variables a.setting a.nth_clause small m;
        opens = opens;
      }
