use Rattle.std.proofs.Common.{◌≡◌, ◌++◌, ◌∙◌, sym, subst, ap, arith, decimal, drop, rules}
use Rattle.std.specs.Str.{IsUtf8}
use Rattle.std.proofs.lemmas.Fmt.{IsAscii-decimal_wide}
use Rattle.std.proofs.lemmas.Str.{IsUtf8-append, IsUtf8-from_ascii}
use Rattle.gs_sentences.proofs.sentence.Sentence.put_long_mask.Goals as goal

pub returns-clause-value : goal.returns-clause-value
returns-clause-value c =
    let behind : drop c.put_from-self-inside.result c.put_from-self-inside.new.array ≡ decimal c.args.mask ++ drop c.self.inside.start c.self.inside.bytes =
    c.put_from-self-inside.ensures.written ∙ ap (λ ds. ds ++ drop c.self.inside.start c.self.inside.bytes) c.put_digits-self-inside.ensures.value in
    search (rules, behind, c.self.view_is)

pub invariant_of-self : goal.invariant_of-self
invariant_of-self c =
    let behind : drop c.put_from-self-inside.result c.put_from-self-inside.new.array ≡ decimal c.args.mask ++ drop c.self.inside.start c.self.inside.bytes =
    c.put_from-self-inside.ensures.written ∙ ap (λ ds. ds ++ drop c.self.inside.start c.self.inside.bytes) c.put_digits-self-inside.ensures.value in
    let mask : IsUtf8 (decimal c.args.mask) = IsUtf8-from_ascii (decimal c.args.mask) (IsAscii-decimal_wide c.args.mask (omega (arith, c.ranges.mask.fits))) in
    let both : IsUtf8 (decimal c.args.mask ++ drop c.self.inside.start c.self.inside.bytes) = IsUtf8-append (decimal c.args.mask) (drop c.self.inside.start c.self.inside.bytes) mask c.self.invariant.utf8 in
    record {
      within = search rules;
      utf8 = subst IsUtf8 (sym behind) both;
      first = c.put_digits-self-inside.ensures.first;
      digits = c.put_digits-self-inside.ensures.value;
    }
