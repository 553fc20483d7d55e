-- `start_record` meets its contract: ten entries are written in the place of the record's. Assumes nothing.
use Rattle.component_records.specs.Records.{started_record}
use Rattle.component_records.proofs.RecordLaws.{put_mid-record}
use Rattle.component_records.proofs.inner.start_record.Goals as goal

pub returns : goal.returns
unfolding started_record
returns c = put_mid-record _ _ c.requires.takes_in.slot.one _ c.copy_from_slice.ensures.after
