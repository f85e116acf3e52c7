use Rattle.gs_reader.proofs.Segments.{segment_end, segment_faulty, segment_spelled}
use Rattle.gs_reader.proofs.law.segment_law.Goals as goal

pub returns : goal.returns
returns c = record {
  item = segment_spelled;
  fault = segment_faulty;
  end = segment_end;
}
