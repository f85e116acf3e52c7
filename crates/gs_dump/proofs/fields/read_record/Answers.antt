use Rattle.std.proofs.Common.{sym, ◌∙◌}
use Rattle.gs_dump.proofs.Records.{fits_from, padded_from}
use Rattle.gs_dump.proofs.fields.read_record.Goals as goal

pub record_at-requires-clause-len : goal.record_at-requires-clause-len
record_at-requires-clause-len c = (fits_from c.args.version c.args.text.now (sym c.record_fits.ensures ∙ c.if-not-record_fits.false)).len

pub record_at-requires-clause-name : goal.record_at-requires-clause-name
record_at-requires-clause-name c = (fits_from c.args.version c.args.text.now (sym c.record_fits.ensures ∙ c.if-not-record_fits.false)).name

pub record_at-requires-clause-zeros : goal.record_at-requires-clause-zeros
record_at-requires-clause-zeros c = padded_from c.args.version c.args.text.now c.requires (fits_from c.args.version c.args.text.now (sym c.record_fits.ensures ∙ c.if-not-record_fits.false))
