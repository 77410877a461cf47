use Rattle.ua_chunks.proofs.Pieces.{cut_frames, cut_state}
use Rattle.ua_chunks.proofs.Streaming.{all_given, stands}
use Rattle.ua_chunks.proofs.laws.pieces_are_one.Goals as goal

pub returns-clause-state : goal.returns-clause-state
returns-clause-state c = cut_state

pub returns-clause-frames : goal.returns-clause-frames
returns-clause-frames c = cut_frames

pub returns-clause-all : goal.returns-clause-all
returns-clause-all c = all_given

pub returns-clause-stands : goal.returns-clause-stands
returns-clause-stands c = stands
