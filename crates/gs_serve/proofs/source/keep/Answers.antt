use Rattle.std.proofs.Common.{◌≡◌, ◌≤◌, ◌∙◌, ◌++◌, List, ℕ, length, Result, Ok, Err, OnOk, if◌then◌else◌, is_ok, ap, sym, min, ◌-◌, take, arith}
use Rattle.gs_serve.specs.declared.source.TheConstants.{MOST_KEPT}
use Rattle.gs_serve.specs.Source.{kept_of}
use Rattle.gs_serve.proofs.Kept.{room_kept}
use Rattle.gs_serve.proofs.source.keep.Goals as goal

by_result : {A E : Type 0} (r : Result A E) (new old more all : List ℕ) → new ≡ (if is_ok r then old ++ more else old) → old ++ more ≡ all → OnOk r (new ≡ all)
by_result (Ok x) new old more all h k = h ∙ k
by_result (Err e) new old more all h k = tt

pub returns : goal.returns
returns c =
    let items = c.args.line.now.items in
    let more = c.args.more.now in
    let short : length items ≤ MOST_KEPT = omega (arith, c.requires, c.args.line.now.ok.0) in
    let count : c.min-count.result ≡ min (MOST_KEPT - length items) (length more) = c.min-count.ensures ∙ ap (λ n. min (MOST_KEPT - n) (length more)) (c.len-room.ensures ∙ c.args.line.now.ok.0) in
    by_result c.extend_from_slice.result c.extend_from_slice.new.self.items items (take c.min-count.result more) (kept_of (items ++ more)) c.extend_from_slice.ensures.items
    (ap (λ n. items ++ take n more) count ∙ sym (room_kept items more MOST_KEPT short))
