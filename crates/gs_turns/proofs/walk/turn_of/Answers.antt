use Rattle.std.proofs.Common.{◌≡◌, ◌∙◌, ap, ℕ, Option, slice_get}
use Rattle.gs_layout.specs.declared.facts.Class.{Class}
use Rattle.gs_timeline.specs.declared.stay.Stay.{Stay}
use Rattle.gs_timeline.specs.Endings.{ending_of}
use Rattle.gs_timeline.specs.declared.ending.Ending.{Ending}
use Rattle.gs_turns.specs.declared.stance.Known.{Known}
use Rattle.gs_turns.specs.declared.turn.Turn.{Turn}
use Rattle.gs_turns.specs.Ticked.{ticked}
use Rattle.gs_turns.specs.Turns.{turn_of, turn_with, waits_since}
use Rattle.gs_turns.proofs.walk.turn_of.Goals as goal

abbrev of_parts : Stay → ℕ → Option Class → Option ℕ → ℕ → ℕ → Ending → Turn
of_parts s since k b waited ran e = record { stay = s; since = since; class = k; before = b; waited_ticks = waited; ran_ticks = ran; ending = e }

pub returns : goal.returns
unfolding turn_of
returns c =
    let h = c.args.journal.now.entries in
    let s = c.args.stay.now in
    let k : Known = c.args.thread in
    let since : c.unwrap_or-since.result ≡ waits_since k s = c.unwrap_or-since.ensures in
    let waited : c.between.result ≡ ticked h s.cpu (waits_since k s) s.from = c.between.ensures h s.cpu c.requires.ticks ∙ ap (λ (m : ℕ). ticked h s.cpu m s.from) since in
    let ran : c.between-2.result ≡ ticked h s.cpu s.from s.to = c.between-2.ensures h s.cpu c.requires.ticks in
    let ending : c.of.result ≡ ending_of (slice_get h s.to) = c.of.ensures ∙ ap ending_of (c.as_ref.ensures.value ∙ c.get.ensures) in
    ap (λ (m : ℕ). of_parts s m k.class k.cpu c.between.result c.between-2.result c.of.result) since
    ∙ (ap (λ (m : ℕ). of_parts s (waits_since k s) k.class k.cpu m c.between-2.result c.of.result) waited
    ∙ (ap (λ (m : ℕ). of_parts s (waits_since k s) k.class k.cpu (ticked h s.cpu (waits_since k s) s.from) m c.of.result) ran
    ∙ (ap (λ (e : Ending). of_parts s (waits_since k s) k.class k.cpu (ticked h s.cpu (waits_since k s) s.from) (ticked h s.cpu s.from s.to) e) ending
    ∙ ap (λ (q : Known). turn_with h q s) c.requires.known)))
