use Rattle.gs_layout.proofs.Parcels.{parcel_made, parcel_reads}
use Rattle.gs_layout.proofs.parcel.Parcel.new.Goals as goal

pub invariant_of-result : goal.invariant_of-result
invariant_of-result c =
    parcel_made c.args.message.now c.encode_message-len.new.out c.encode_message-len.result c.requires c.encode_message-len.ensures.count c.encode_message-len.ensures.written

pub returns : goal.returns
returns c = parcel_reads c.args.message.now c.encode_message-len.new.out c.requires c.encode_message-len.ensures.written
