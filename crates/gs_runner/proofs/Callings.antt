-- Lists of calls, and one call more.
use Rattle.std.proofs.Common.{ℕ, Bool, List, [], ◌∷◌, ◌++◌, refl, subst}
use Rattle.gs_journal.specs.History.{History}
use Rattle.gs_kernel.specs.declared.settings.Settings.{Settings}
use Rattle.gs_runner.specs.declared.call.Call.{Call}
use Rattle.gs_runner.specs.Calls.{IsCall, Leads, given_by}

pub leads_more : (parcels : ℕ) (s : Settings) (h : History) (given : Bool) (cs : List Call) (mid : History) (given' : Bool) (c : Call) (h' : History)
    → Leads parcels s h given cs mid given' → IsCall parcels s mid given' c h' → Leads parcels s h given (cs ++ c ∷ []) h' (given_by c.reply given')
leads_more parcels s h given [] mid given' c h' t k = (h', subst (λ (x : History). IsCall parcels s x given c h') t.0 (subst (λ (g : Bool). IsCall parcels s mid g c h') t.1 k), (refl, λ i. given_by c.reply (t.1 i)))
leads_more parcels s h given (d ∷ cs) mid given' c h' t k = (t.0, t.1, leads_more parcels s t.0 (given_by d.reply given) cs mid given' c h' t.2 k)
