use Rattle.std.proofs.Common.{rules, refl, subst, ap, append_assoc, ◌∙◌, ◌≡◌, true, List, ℕ, [], ◌∷◌, ◌++◌}
use Rattle.gs_session.specs.Session.{Hears}
use Rattle.gs_simulate.specs.Heard.{head_of, landings_heard}
use Rattle.gs_simulate.specs.Lines.{line_text}
use Rattle.gs_simulate.proofs.Heard.{heard_if, kept_head, one_heard, same_line, still_within}
use Rattle.gs_simulate.proofs.log.Log.add.Goals as goal

the_line : (g : _) (c : goal.After-self-2-1 g) → Hears g.P.NamedPolicy.naming g.P.Policy.chosen c.self.inside.session (line_text g.P.NamedPolicy.naming c.args.line.now) c.in_ok-heard.heard c.hear_line.new.session
the_line g c =
    let same =
    same_line c.self.inside.text (line_text g.P.NamedPolicy.naming c.args.line.now) c.write_line.new.text c.end_line.new.self c.as_bytes-start.result.now c.as_bytes-end.result.now c.as_bytes.result.now
    c.as_bytes-start.ensures c.in_ok-write_line.ensures c.as_bytes-end.ensures c.in_ok-end_line.ensures.added c.as_bytes.ensures in
    subst (λ (xs : List ℕ). Hears g.P.NamedPolicy.naming g.P.Policy.chosen c.self.inside.session xs c.in_ok-heard.heard c.hear_line.new.session) same c.in_ok-heard.ensures.hears

the_text : (g : _) (c : goal.After-self-2-1 g) → c.end_line.new.self ≡ c.self.inside.text ++ line_text g.P.NamedPolicy.naming c.args.line.now ++ 10 ∷ []
the_text g c = c.in_ok-end_line.ensures.added ∙ ap (λ (xs : List ℕ). xs ++ 10 ∷ []) c.in_ok-write_line.ensures

pub invariant_of-self-2 : goal.invariant_of-self-2
invariant_of-self-2 g c =
    let before = heard_if g.P.NamedPolicy.naming g.P.Policy.chosen c.self.inside.whole c.self.inside.text c.self.inside.session c.self.inside.landings.items c.self.inside.headed c.self.invariant (search rules) in
    let text = the_text g c in
    record {
      heard = one_heard g.P.NamedPolicy.naming g.P.Policy.chosen c.self.inside.text (line_text g.P.NamedPolicy.naming c.args.line.now) c.end_line.new.self c.self.inside.session c.hear_line.new.session c.in_ok-heard.heard c.self.inside.landings.items c.add_landings.new.all.items
          before.heard text (the_line g c) c.in_ok-heard.ensures.faultless c.in_ok-add_landings.ensures;
      within = still_within c.self.inside.headed c.self.inside.text (line_text g.P.NamedPolicy.naming c.args.line.now ++ 10 ∷ []) c.end_line.new.self before.within (text ∙ append_assoc c.self.inside.text (line_text g.P.NamedPolicy.naming c.args.line.now) (10 ∷ []));
    }

pub returns-clause-added : goal.returns-clause-added
returns-clause-added g c =
    let text = the_text g c in
    let hears = the_line g c in
    let landed : c.add_landings.new.all.items ≡ c.self.inside.landings.items ++ landings_heard c.in_ok-heard.heard = c.in_ok-add_landings.ensures in
    record {
      text = search rules;
      hears = search rules;
      faultless = c.in_ok-heard.ensures.faultless;
      landed = search rules;
      whole = refl;
    }

pub returns-clause-kept : goal.returns-clause-kept
returns-clause-kept g c =
    let whole : c.self.inside.whole ≡ true = search rules in
    let before = heard_if g.P.NamedPolicy.naming g.P.Policy.chosen c.self.inside.whole c.self.inside.text c.self.inside.session c.self.inside.landings.items c.self.inside.headed c.self.invariant whole in
    let line : List ℕ = line_text g.P.NamedPolicy.naming c.args.line.now in
    kept_head (record { text = c.self.inside.text; session = c.self.inside.session; landings = c.self.inside.landings.items; whole = c.self.inside.whole; headed = c.self.inside.headed }) (line ++ 10 ∷ []) c.end_line.new.self whole before.within
    (the_text g c ∙ append_assoc c.self.inside.text line (10 ∷ []))
    ∙ ap head_of c.self.view_is
