-- The atoms of an accepted program: each body atom stands in the directory under its number in program order, and heads and body atoms are atoms of the program.
use Prim.Native.Nat.{ℕ, zero, suc, ◌+◌, ◌≤◌, ◌<◌}
use native.Mathlib.Omega.{arith}
use mathlib.Core.Path.{◌≡◌, ap, ◌∙◌}
use mathlib.Core.List.{List}
use lib.ListN.{length, get_or, take, length-append}
use Rattle.terms.specs.Term.{Term}
use Rattle.terms.specs.Cells.{Atom}
use Rattle.program.specs.Program.{Nth, Clause, Program, bodies}
use Rattle.program.specs.Limits.{max_bodies}
use Rattle.program.proofs.Nths.{below_nth, nth_below}
use Rattle.directory.specs.Layout.{clause_first}
use Rattle.directory.specs.Directory.{BodyAt}
use Rattle.directory.proofs.ClausesWalk.{bodies_next}
use Rattle.directory.proofs.DirectoryLaws.{head_sound, body_sound}
use Rattle.table.specs.Keys.{body_index}
use Rattle.table.proofs.Keys.{index_below}
use Rattle.steps.specs.Situation.{Setting}

module _ {words dir : List ℕ} {p : Program} (s : Setting words dir p) where
  -- the number of a clause's first body atom
  pub first_body : (k : ℕ) → k ≤ length p.clauses → get_or dir (clause_first + k) 0 ≡ length (bodies (take k p.clauses))
  first_body zero l = s.directory.first_zero
  first_body (suc k) l =
      let (c, hc) = below_nth p.clauses k (omega arith) in
      let before = first_body k (omega arith) in
      (s.directory.clause hc).first_next
      ∙ rw (bodies_next hc, length-append (bodies (take k p.clauses)) c.body) (ap (λ (n : ℕ). n + length c.body) before)

  module _ {k i : ℕ} {c : Clause} {A : Term} (hc : Nth p.clauses k c) (hA : Nth c.body i A) where
    pub body_there : BodyAt words p dir c i A (body_index p k i)
    body_there =
        let e = first_body k (let l = nth_below hc in omega arith) in
        rw (← e) (s.directory.body hc hA)

    pub body_few : body_index p k i < max_bodies
    body_few = let d = s.directory in omega (arith, index_below p hc hA, d.body_count_law, d.bodies_most)

    pub body_is_atom : Atom p.predicates p.functions A
    body_is_atom = body_sound words p s.accepted hc hA

  pub head_is_atom : {k : ℕ} {c : Clause} → Nth p.clauses k c → Atom p.predicates p.functions c.head
  head_is_atom hc = head_sound words p s.accepted hc
