use Rattle.std.proofs.Common.{◌≡◌, sym, ap, ◌∙◌}
use Rattle.gs_layout.specs.declared.kind.Kind.{Kind}
use Rattle.gs_layout.specs.Reading.{kind_in, message_with}
use Rattle.gs_layout.proofs.ReadBack.{begun_is, kind_in_begun, thread_made}
use Rattle.gs_layout.proofs.fields.message_of.Goals as goal

pub returns-in_default : goal.returns-in_default
returns-in_default c = λ m h.
    let bytes = c.args.bytes.now in
    let kind : c.kind_of.result ≡ kind_in bytes = c.kind_of.ensures m h ∙ sym (kind_in_begun bytes m h) in
    thread_made c.kind_of.result bytes c.u32_at.result c.u32_at-in_default.result c.change_at.result c.in_default.not-TimerTick c.u32_at.ensures c.u32_at-in_default.ensures c.change_at.ensures
    ∙ ap (λ (k : Kind). message_with k bytes) kind
    ∙ begun_is bytes m h
