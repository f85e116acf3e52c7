use Rattle.std.proofs.Common.{◌≡◌, ◌∙◌, ◌<◌, ◌&&◌, ap, sym, subst, ℕ, Bool, get_or, length, slice_set, arith}
use Rattle.std.specs.Prelude.{not}
use Rattle.std.proofs.lemmas.List.{get_or_default}
use Rattle.gs_status.specs.Masks.{has}
use Rattle.gs_usage.specs.Seats.{IsKept}
use Rattle.gs_usage.proofs.Seating.{row_within, freed_kept}
use Rattle.gs_usage.proofs.seats.Seats.free.Goals as goal

pub index-requires-2 : goal.index-requires-2
index-requires-2 c =
    let there = c.index.ensures ∙ get_or_default c.args.self.now.threads.items c.args.cpu c.index.result.now 0 (omega (arith, c.requires.cpu, c.requires.kept.room)) in
    let fits = row_within c.args.self.now.busy c.args.cpu c.index.result.now c.args.self.now.threads.items c.args.self.now.places.items c.requires.kept c.requires.cpu (sym c.contains.ensures ∙ c.if-not-contains.false) there in
    omega (arith, fits)

pub index_mut-requires : goal.index_mut-requires
index_mut-requires c =
    let there = c.index.ensures ∙ get_or_default c.args.self.now.threads.items c.args.cpu c.index.result.now 0 (omega (arith, c.requires.cpu, c.requires.kept.room)) in
    let fits = row_within c.args.self.now.busy c.args.cpu c.index.result.now c.args.self.now.threads.items c.args.self.now.places.items c.requires.kept c.requires.cpu (sym c.contains.ensures ∙ c.if-not-contains.false) there in
    omega (arith, fits)

pub returns-clause-kept : goal.returns-clause-kept
returns-clause-kept c =
    let b = c.args.self.now.busy in
    let ts = c.args.self.now.threads.items in
    let ps = c.args.self.now.places.items in
    let there : c.index.result.now ≡ get_or ts c.args.cpu 0 = c.index.ensures ∙ get_or_default ts c.args.cpu c.index.result.now 0 (omega (arith, c.requires.cpu, c.requires.kept.room)) in
    let fits : c.index.result.now < length ps = row_within b c.args.cpu c.index.result.now ts ps c.requires.kept c.requires.cpu (sym c.contains.ensures ∙ c.if-not-contains.false) there in
    let read : c.index-2.result.now ≡ get_or ps (get_or ts c.args.cpu 0) 0 = c.index-2.ensures ∙ (get_or_default ps c.index.result.now c.index-2.result.now 0 fits ∙ ap (λ (t : ℕ). get_or ps t 0) there) in
    subst (λ (t : ℕ). IsKept c.without-self.result ts (slice_set ps t c.without.result)) (sym there)
    (freed_kept b c.without-self.result c.args.cpu c.without.result ts ps c.requires.kept c.requires.cpu (subst (λ (t : ℕ). t < length ps) there fits)
    (λ i. c.without-self.ensures i ∙ ap (λ (k : Bool). has b i && not k) (c.one-seat.ensures i))
    (λ i. c.without.ensures i ∙ (ap (λ (m : ℕ). has m i && not (has c.one-seat.result i)) read ∙ ap (λ (k : Bool). has (get_or ps (get_or ts c.args.cpu 0) 0) i && not k) (c.one-seat.ensures i))))
