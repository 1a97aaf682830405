-- `clause_of` meets its contract: the first clause that ends behind the body atom is its own. Assumes nothing.
use Rattle.std.proofs.Common.{rules, tests, ◌≡◌, ℕ, Some}
use mathlib.Core.Path.{refl, sym, ◌∙◌}
use lib.Dec.{ltb}
use Rattle.std.proofs.lemmas.Iterator.{YieldsList-from_slice}
use Rattle.std.proofs.lemmas.Iterator.Search.{position_from_yields_List}
use Rattle.concerns.proofs.BodyClauses.{clause_there}
use Rattle.concerns.proofs.bodies.clause_of.Goals as goal

same : {a b : ℕ} → Some a ≡ Some b → a ≡ b
same e = cc

pub unwrap-requires : goal.unwrap-requires
unwrap-requires c =
    let there = clause_there c.requires.setting _ c.requires.body _ _ c.iter.ensures.rest
    (position_from_yields_List (λ behind. ltb c.args.j behind) _ _ _ c.position.ensures.ran (YieldsList-from_slice _ refl) (λ x b q k. search (rules, tests))) in
    rw there refl

pub returns : goal.returns
returns c = λ w.
    let there : c.position.result ≡ Some w.body.k = clause_there w.setting _ w.body _ _ c.iter.ensures.rest
    (position_from_yields_List (λ behind. ltb c.args.j behind) _ _ _ c.position.ensures.ran (YieldsList-from_slice _ refl) (λ x b q k. search (rules, tests))) in
    same (sym c.unwrap.ensures ∙ there)
