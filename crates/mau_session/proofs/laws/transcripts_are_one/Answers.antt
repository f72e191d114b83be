use Rattle.mau_session.proofs.OneTranscript.{transcript_once}
use Rattle.mau_session.proofs.laws.transcripts_are_one.Goals as goal

pub returns : goal.returns
returns c = transcript_once
