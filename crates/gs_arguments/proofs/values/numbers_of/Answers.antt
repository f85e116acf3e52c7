use Rattle.std.proofs.Common.{Bor, ◌∙◌, ◌++◌, ap₂, sym, ℕ, List, Option, []}
use Rattle.std.specs.List.{cons_option}
use Rattle.gs_arguments.proofs.Given.{numbers_more}
use Rattle.gs_arguments.proofs.values.numbers_of.Goals as goal

pub loop-word-preserved : goal.loop-word-preserved
loop-word-preserved c =
    c.in_ok-push_number.ensures
    ∙ ap₂ (λ (numbers : List ℕ) (number : Option ℕ). numbers ++ cons_option number []) c.loop-word.invariant c.number_word.ensures
    ∙ sym (numbers_more (λ (word : Bor (List ℕ)). word.now) c.args.words.now c.loop-word.word-index (record { ref_ptr = (0, 0); now = [] }) c.loop-word-test.true)
