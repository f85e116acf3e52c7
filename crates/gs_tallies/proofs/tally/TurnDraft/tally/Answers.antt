use Rattle.std.proofs.Common.{◌≡◌, ◌∙◌, ap, refl, sym, subst, ℕ, Option, None, Some, List, [], ◌∷◌, map}
use Rattle.std.specs.Prelude.{IfNone, IfSome}
use Rattle.gs_turns.specs.Turns.{waited}
use Rattle.gs_turns.specs.declared.turn.Turn.{Turn}
use Rattle.gs_tallies.specs.Drafts.{entries_in, ticks_in, wait_of}
use Rattle.gs_tallies.specs.Spreads.{IsSpread}
use Rattle.gs_tallies.specs.Tallies.{waited_ticks}
use Rattle.gs_tallies.specs.declared.spread.Spread.{Spread}
use Rattle.gs_tallies.proofs.tally.TurnDraft.tally.Goals as goal

in_entries : (ts : List Turn) → map entries_in (map wait_of ts) ≡ map waited ts
in_entries [] = refl
in_entries (t ∷ ts) = ap (λ (ws : List ℕ). waited t ∷ ws) (in_entries ts)

in_ticks : (ts : List Turn) → map ticks_in (map wait_of ts) ≡ map waited_ticks ts
in_ticks [] = refl
in_ticks (t ∷ ts) = ap (λ (ws : List ℕ). waited_ticks t ∷ ws) (in_ticks ts)

-- where no turn waits there is none
no_turns : (f : Turn → ℕ) (ts : List Turn) → map f ts ≡ [] → ts ≡ []
no_turns f [] none = refl
no_turns f (t ∷ ts) none = absurd cc

none_of : (f : Turn → ℕ) (ts : List Turn) (s : Option Spread) (ws : List ℕ) → ws ≡ map f ts → IfNone s (ws ≡ []) → IfNone s (ts ≡ [])
none_of f ts None ws is none = no_turns f ts (sym is ∙ none)
none_of f ts (Some s) ws is none = tt

pub returns : goal.returns
returns c ts is =
    let entries : c.deref_mut.result.now ≡ map waited ts = c.deref_mut.ensures.value ∙ (c.in_ok-put_entries.ensures ∙ (ap (map entries_in) (c.deref.ensures.value ∙ is.waits) ∙ in_entries ts)) in
    let ticks : c.deref_mut-2.result.now ≡ map waited_ticks ts = c.deref_mut-2.ensures.value ∙ (c.in_ok-put_ticks.ensures ∙ (ap (map ticks_in) (c.deref-2.ensures.value ∙ is.waits) ∙ in_ticks ts)) in
    record {
      sums = is.sums;
      entries = subst (λ (ws : List ℕ). IfSome c.spread_of-waits_in_entries.result (IsSpread ws)) entries c.spread_of-waits_in_entries.ensures.some;
      ticks = subst (λ (ws : List ℕ). IfSome c.spread_of-waits_in_ticks.result (IsSpread ws)) ticks c.spread_of-waits_in_ticks.ensures.some;
      no_entries = none_of waited ts c.spread_of-waits_in_entries.result c.deref_mut.result.now entries c.spread_of-waits_in_entries.ensures.none;
      no_ticks = none_of waited_ticks ts c.spread_of-waits_in_ticks.result c.deref_mut-2.result.now ticks c.spread_of-waits_in_ticks.ensures.none;
    }
