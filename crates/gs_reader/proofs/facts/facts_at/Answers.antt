use Rattle.std.proofs.Common.{◌≡◌, ℕ, ◌==◌, ap, drop, sym, ◌∙◌}
use Rattle.std.proofs.lemmas.List.{take_rest}
use Rattle.gs_layout.specs.declared.name.TheConstants.{MOST_NAME_LEN}
use Rattle.gs_layout.specs.declared.wire.TheConstants.{NAME_AT}
use Rattle.gs_layout.specs.Name.{is_name, name_field}
use Rattle.gs_reader.specs.Creation.{name_front}
use Rattle.gs_reader.proofs.Creations.{kept_is, padded_is}
use Rattle.gs_reader.proofs.facts.facts_at.Goals as goal

pub from_padded-requires-clause-name : goal.from_padded-requires-clause-name
from_padded-requires-clause-name c =
    let copied : c.padded_name.result ≡ name_front MOST_NAME_LEN (drop NAME_AT c.args.text.now) = c.padded_name.ensures ∙ ap (name_front MOST_NAME_LEN) (take_rest c.args.text.now NAME_AT) in
    ap is_name (kept_is c.args.text.now c.padded_name.result c.requires copied) ∙ c.requires.name

pub from_padded-requires-clause-zeros : goal.from_padded-requires-clause-zeros
from_padded-requires-clause-zeros c =
    let copied : c.padded_name.result ≡ name_front MOST_NAME_LEN (drop NAME_AT c.args.text.now) = c.padded_name.ensures ∙ ap (name_front MOST_NAME_LEN) (take_rest c.args.text.now NAME_AT) in
    ap name_field (kept_is c.args.text.now c.padded_name.result c.requires copied) ∙ sym (padded_is c.args.text.now c.padded_name.result c.requires copied)

pub returns : goal.returns
returns c =
    let copied : c.padded_name.result ≡ name_front MOST_NAME_LEN (drop NAME_AT c.args.text.now) = c.padded_name.ensures ∙ ap (name_front MOST_NAME_LEN) (take_rest c.args.text.now NAME_AT) in
    λ i. record {
      mask = (c.new.ensures ∙ c.u128_at.ensures) i;
      runnable = ap (λ (n : ℕ). n == 1) c.u16_at.ensures i;
      class = c.numbered.ensures i;
      name = (c.from_padded.ensures ∙ kept_is c.args.text.now c.padded_name.result c.requires copied) i;
    }
