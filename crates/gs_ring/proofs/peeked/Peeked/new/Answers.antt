use Rattle.std.proofs.Common.{◌≡◌, ℕ, List, [], ap, sym, subst, ◌∙◌, append-nil}
use Rattle.gs_layout.specs.declared.message.Message.{Message}
use Rattle.gs_layout.specs.Reading.{message_in}
use Rattle.gs_layout.specs.Spelling.{IsSpellable, spelling}
use Rattle.gs_layout.proofs.Laws.{read_back}
use Rattle.gs_ring.specs.Peek.{message_of}
use Rattle.gs_ring.proofs.peeked.Peeked.new.Goals as goal

names : (text : List ℕ) (m : Message) → IsSpellable m → text ≡ spelling m → message_in text ≡ m
names text m fits e = ap message_in (e ∙ sym (append-nil (spelling m))) ∙ read_back m [] fits

pub invariant_of-result : goal.invariant_of-result
invariant_of-result c =
    let is = names c.args.bytes.now c.requires.0 c.requires.1 c.requires.2 in
    record { whole = record { spellable = subst IsSpellable (sym is) c.requires.1; whole = c.requires.2 ∙ ap spelling (sym is) } }

pub returns : goal.returns
unfolding message_of
returns c = λ m fits e. names c.args.bytes.now m fits e
