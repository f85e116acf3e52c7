use Rattle.std.proofs.Common.{◌≡◌, ◌++◌, ◌∷◌, [], length, ap, true, sym, subst, arith, rules, length-append}
use Rattle.gs_journal.specs.History.{History}
use Rattle.gs_kernel.specs.declared.settings.Settings.{Settings}
use Rattle.gs_kernel.specs.Group.{Group}
use Rattle.gs_kernel.specs.Landing.{placing}
use Rattle.gs_kernel.specs.Legal.{RoomOf}
use Rattle.gs_kernel.specs.Ready.{AreApart, AreFree, AreReady}
use Rattle.gs_kernel.proofs.Groups.{free_then, ready_then, told_alone}
use Rattle.gs_kernel.proofs.kernel.Kernel.+place_all.Goals as goal

pub place_all-requires : goal.place_all-requires
place_all-requires g t c κs within =
    let p = g.P.Poster in
    let s = c.args.self.now.settings in
    let h = c.args.self.now.history in
    let h' = c.tell_alone.new.self.history in
    let x = c.in-Some.field-0-0.now in
    let rest = c.in-Some.rest.now in
    let whole : c.args.group.now ≡ x ∷ rest = c.in-Some.ensures.cases.0 in
    let now : h' ≡ h ++ placing x.0 x.1 ∷ [] = told_alone (RoomOf p.same p.consumed p.posted p.tight c.args.self.now.poster) h (placing x.0 x.1) true h' c.tell_alone.ensures.tells in
    let same : c.tell_alone.new.self.settings ≡ s = c.tell_alone.ensures.frame.settings in
    let are = subst (λ (z : Group). AreReady s h z) whole c.requires.ready in
    let apart = subst AreApart whole c.requires.apart in
    let free = subst (λ (z : Group). AreFree h z) whole c.requires.free in
    let n = ap length now in
    let m = length-append h (placing x.0 x.1 ∷ []) in
    let k = ap length whole in
    let most = ap (λ (z : Settings). z.history) same in (
      search rules,
      (
        search rules,
        (
          subst (λ (z : Settings). AreReady z h' rest) (sym same) (subst (λ (z : History). AreReady s z rest) (sym now) (ready_then s h x rest apart are)),
          (
            subst (λ (z : History). AreFree z rest) (sym now) (free_then h x rest apart free),
            (
              apart.1,
              (
                omega (arith, n, m, k, c.tell_alone.ensures.room, c.requires.room),
                omega (arith, n, m, k, most, c.requires.few),
              ),
            ),
          ),
        ),
      ),
    )
