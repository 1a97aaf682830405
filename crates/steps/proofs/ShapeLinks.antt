-- The shapes of one predicate, one after another by their links: all that are passed have lesser numbers, and at link 0 all are passed.
use Prim.Native.Nat.{ℕ, zero, suc, min, ◌+◌, ◌-◌, ◌*◌, ◌≤◌, ◌<◌}
use native.Mathlib.Omega.{arith}
use native.Mathlib.Decide.{dec_lt}
use mathlib.Core.Path.{◌≡◌, sym, ap, ◌∙◌}
use mathlib.Core.Logic.{◌⊎◌, inl, inr}
use mathlib.Core.List.{List}
use lib.ListN.{length, get_or, drop, length-drop}
use lib.Seq.{length-take-le}
use Rattle.terms.specs.Term.{Term, Terms, app, Subst, sub, subs}
use Rattle.program.specs.Program.{Nth, Program}
use Rattle.program.specs.Shapes.{shapes}
use Rattle.program.specs.Limits.{max_shapes}
use Rattle.program.proofs.Nths.{nth_below}
use Rattle.directory.specs.Layout.{functions_start, predicates_start, predicate_shape, shape_next}
use Rattle.directory.specs.Directory.{Link, predicate_of}
use Rattle.steps.specs.Situation.{Setting}
use Rattle.steps.specs.Since.{SinceIn}
use Rattle.steps.proofs.Meetings.{setting_within}

-- how many shapes may be left: the measure of a walk along the links
abbrev pub shapes_left : ℕ → ℕ
shapes_left link = (max_shapes + 1) * min 1 link - link

module _ {words dir : List ℕ} {p : Program} (S : Setting words dir p) where
  pub shape_below : {s : ℕ} {T : Term} → Nth (shapes p) s T → s < max_shapes
  shape_below h = omega (arith, nth_below h, S.directory.shape_count_law, S.directory.shapes_most)

  pub predicate_below : (q : ℕ) → q < length p.predicates → predicate_shape + q < length dir
  predicate_below q h = omega (arith, (setting_within S).predicates_most, S.directory.size)

  predicate_count : length p.predicates ≡ get_or dir functions_start 0 - predicates_start
  predicate_count =
      let D = S.directory in
      sym (ap length D.predicates_are)
      ∙ length-take-le (get_or dir functions_start 0 - predicates_start) (drop predicates_start words)
      (rw (length-drop predicates_start words) (omega (arith, D.functions_in.0, D.functions_in.1, D.functions_in.2)))

  module _ {q k link : ℕ} (L : Link (shapes p) q k link) (h : 0 < link) where
    pub link_below : link - 1 < max_shapes
    link_below = shape_below (L.named h).2

    -- the next one
    pub next_link : Link (shapes p) q link (get_or dir (shape_next + (link - 1)) 0)
    next_link =
        let n = L.named h in
        let e : suc (link - 1) ≡ link = omega arith in
        rw (n.3, e) at (S.directory.shape n.2).next

    pub links_fall : shapes_left (get_or dir (shape_next + (link - 1)) 0) < shapes_left link
    links_fall = at (get_or dir (shape_next + (link - 1)) 0) next_link
      where
        at : (link' : ℕ) → Link (shapes p) q link link' → shapes_left link' < shapes_left link
        at zero L' = omega (arith, link_below)
        at (suc s) L' = let n = L'.named (omega arith) in omega (arith, link_below, n.0)

  -- a shape of the predicate that is not the one at the link was passed before, where it is before the next
  pub passed_before : {q k link : ℕ} → Link (shapes p) q k link → {s : ℕ} {T : Term} → Nth (shapes p) s T → predicate_of T ≡ q → s < link → (s < k) ⊎ (s ≡ link - 1)
  passed_before {k = k} {link = link} L {s} {T} m e l = at (dec_lt s k)
    where
      at : Dec (s < k) → (s < k) ⊎ (s ≡ link - 1)
      at (yes b) = inl b
      at (no n) = inr (let w = L.none_before s T m e (omega arith) in omega (arith, w.1))

  -- at link 0 all are passed
  pub all_passed : {q k link : ℕ} → Link (shapes p) q k link → link ≤ 0 → {s : ℕ} {T : Term} → Nth (shapes p) s T → predicate_of T ≡ q → s < k
  all_passed {k = k} L h {s} {T} m e = at (dec_lt s k)
    where
      at : Dec (s < k) → s < k
      at (yes b) = b
      at (no n) = absurd (let w = L.none_before s T m e (omega arith) in omega (arith, w.0))

-- a directory says how many predicates there are
pub predicates_same : {words words' dir : List ℕ} {p p' : Program} → Setting words dir p → Setting words' dir p' → length p'.predicates ≡ length p.predicates
predicates_same S S' = predicate_count S' ∙ sym (predicate_count S)

-- none of the shapes passed has a row from `since` on
pub record NoneSince (p : Program) (heads : List ℕ) (predicate first since link : ℕ) : Type 0 where
  pub k : ℕ
  pub links : Link (shapes p) predicate k link
  pub none : (s : ℕ) (T : Term) → Nth (shapes p) s T → predicate_of T ≡ predicate → s < k → since < get_or heads (first + s) 0 → ⊥

module _ {words dir : List ℕ} {p : Program} (S : Setting words dir p) {heads : List ℕ} {predicate first since : ℕ} where
  pub none_since_begins : predicate < length p.predicates → NoneSince p heads predicate first since (get_or dir (predicate_shape + predicate) 0)
  none_since_begins d =
      record { k = 0; links = S.directory.first_shape predicate d; none = λ s T m e l b. absurd (omega arith) }

  module _ {link : ℕ} (n : NoneSince p heads predicate first since link) where
    pub since_goes_on : 0 < link → (since < get_or heads (first + (link - 1)) 0 → ⊥) → NoneSince p heads predicate first since (get_or dir (shape_next + (link - 1)) 0)
    since_goes_on h old =
        record {
          k = link;
          links = next_link S n.links h;
          none = λ s T m e l b. at s T m e b (passed_before S n.links m e l);
        }
      where
        at : (s : ℕ) (T : Term) → Nth (shapes p) s T → predicate_of T ≡ predicate → since < get_or heads (first + s) 0 → (s < n.k) ⊎ (s ≡ link - 1) → ⊥
        at s T m e b (inl l) = n.none s T m e l b
        at s T m e b (inr i) = old (rw i at b)

    pub since_found : 0 < link → since < get_or heads (first + (link - 1)) 0 → SinceIn p heads predicate first since
    since_found h b = let m = n.links.named h in (link - 1, m.1, m.2, m.3, b)

    pub since_ends : link ≤ 0 → SinceIn p heads predicate first since → ⊥
    since_ends h f = n.none f.0 f.1 f.2 f.3 (all_passed S n.links h f.2 f.3) f.4

-- what two unified atoms share is their predicate
pub same_predicate : {A B : Term} (f g : ℕ) (ts us : Terms) (α β : Subst) → A ≡ app f ts → B ≡ app g us → sub A α ≡ sub B β → predicate_of A ≡ predicate_of B
same_predicate f g ts us α β a b e =
    let h : app f (subs ts α) ≡ app g (subs us β) = rw (a, b) at e in
    let k : f ≡ g = cc in
    rw (a, b) k
