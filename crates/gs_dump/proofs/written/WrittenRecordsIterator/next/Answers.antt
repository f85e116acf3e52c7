use Rattle.std.proofs.Common.{◌≡◌, ◌<◌, ◌≤◌, ◌∷◌, List, ℕ, drop, length, ap, sym, subst, ◌∙◌, arith, rules}
use Rattle.std.specs.Prelude.{slice_index}
use Rattle.std.proofs.lemmas.Bool.Decides.{nat_tests}
use Rattle.gs_layout.specs.declared.name.TheConstants.{MOST_NAME_LEN}
use Rattle.gs_layout.specs.Name.{is_name, name_field}
use Rattle.gs_dump.specs.declared.version.Version.TheVariants.{Two}
use Rattle.gs_dump.specs.declared.wire.TheConstants.{NAME_LEN_AT}
use Rattle.gs_dump.specs.Reading.{name_in, record_in}
use Rattle.gs_dump.specs.Version.{name_at}
use Rattle.gs_dump.specs.Written.{AreSpelled, records_in}
use Rattle.gs_dump.proofs.Spelled.{first_in, none_left}
use Rattle.gs_dump.proofs.written.WrittenRecordsIterator.next.Goals as goal

pub returns-then-is_empty-clause-steps : goal.returns-then-is_empty-clause-steps
returns-then-is_empty-clause-steps c =
    let none : length c.self.inside.rest.now ≡ 0 = grind (arith, nat_tests) in
    let over = sym c.self.view_is ∙ none_left c.self.inside.rest.now none in
    (over, over)

pub split_at-requires : goal.split_at-requires
split_at-requires c =
    let some : 0 < length c.self.inside.rest.now = grind (arith, nat_tests) in
    (first_in c.self.inside.rest.now c.self.invariant some).size

pub record_at-requires-clause-len : goal.record_at-requires-clause-len
record_at-requires-clause-len c =
    let some : 0 < length c.self.inside.rest.now = grind (arith, nat_tests) in
    subst (λ (t : List ℕ). slice_index t NAME_LEN_AT ≤ MOST_NAME_LEN) (sym c.split_at.ensures.front) (first_in c.self.inside.rest.now c.self.invariant some).len

pub record_at-requires-clause-name : goal.record_at-requires-clause-name
record_at-requires-clause-name c =
    let some : 0 < length c.self.inside.rest.now = grind (arith, nat_tests) in
    ap (λ (t : List ℕ). is_name (name_in Two t)) c.split_at.ensures.front ∙ (first_in c.self.inside.rest.now c.self.invariant some).name

pub record_at-requires-clause-zeros : goal.record_at-requires-clause-zeros
record_at-requires-clause-zeros c =
    let some : 0 < length c.self.inside.rest.now = grind (arith, nat_tests) in
    subst (λ (t : List ℕ). name_field (name_in Two t) ≡ drop (name_at Two) t) (sym c.split_at.ensures.front) (first_in c.self.inside.rest.now c.self.invariant some).zeros

pub invariant_of-self : goal.invariant_of-self
invariant_of-self c =
    let some : 0 < length c.self.inside.rest.now = grind (arith, nat_tests) in
    subst AreSpelled (sym c.split_at.ensures.back) (first_in c.self.inside.rest.now c.self.invariant some).rest

pub returns-clause-steps : goal.returns-clause-steps
returns-clause-steps c =
    let some : 0 < length c.self.inside.rest.now = grind (arith, nat_tests) in
    sym c.self.view_is ∙ ((first_in c.self.inside.rest.now c.self.invariant some).first
    ∙ (λ i. sym (c.record_at.ensures ∙ ap (record_in Two) c.split_at.ensures.front) i ∷ sym (ap records_in c.split_at.ensures.back) i))

pub returns-clause-goes : goal.returns-clause-goes
returns-clause-goes c =
    let fewer : length (records_in c.split_at.result.1.now) < length c.args.self.now = omega (arith, ap length (returns-clause-steps c)) in
    search rules
