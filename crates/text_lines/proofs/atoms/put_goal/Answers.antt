-- `text_lines::atoms::put_goal` meets its contract. Assumes nothing.
use mathlib.Core.Path.{ap, ◌∙◌}
use native.Mathlib.Omega.{arith}
use lib.ListN.{set}
use Rattle.program.specs.Limits.{max_words}
use Rattle.text_lines.proofs.AtomLines.{goal_words_law, goal_count}
use Rattle.text_lines.proofs.atoms.put_goal.Goals as goal

pub returns : goal.returns
returns c = let a = c.args in
    λ ws ms out st. record {
      all = goal_words_law a.c st c.put.new.items c.put_modes.new.words c.put_counts.new.words
          (c.put.ensures ∙ ap (set a.words.now a.p.words) (c.narrow.ensures (omega (arith, st.few))))
          (λ xs e n. c.put_modes.ensures max_words xs ms e n st.mode_room st.met st.few)
          (λ xs e. c.put_counts.ensures max_words xs e);
      counted = goal_count a.c st;
    }
