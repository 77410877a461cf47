-- Which frames a stream has (OPC 10000-6, 7.1.2.2 and 6.7.2.2), said without reading: which lists of bytes frames are.
use Rattle.std.specs.Prelude.{◌≡◌, ◌≤◌, ℕ, ◌+◌, List, [], ◌∷◌, ◌++◌, length, ◌⊎◌}
use Rattle.std.specs.List.{flat_map}
use Rattle.byteorder.specs.Endian.{little_bytes}
use Rattle.ua_chunks.specs.declared.frame.Kind.{Kind}
use Rattle.ua_chunks.specs.declared.frame.Kind.TheVariants as kind
use Rattle.ua_chunks.specs.declared.frame.Chunk.{Chunk}
use Rattle.ua_chunks.specs.declared.frame.Chunk.TheVariants as chunk
use Rattle.ua_chunks.specs.declared.frame.Frame.{Frame}
use Rattle.ua_chunks.specs.Frames.{Split, letter, letters, moved}

-- three letters, the chunk's letter, and the size of the whole as four bytes, the lowest first
abbrev pub start_bytes : Kind → Chunk → ℕ → List ℕ
start_bytes k c count = letters k ++ letter c ++ little_bytes 4 (8 + count)

abbrev pub chunk_bytes : Kind → Chunk → List ℕ → List ℕ
chunk_bytes k c body = start_bytes k c (length body) ++ body

abbrev pub frame_bytes : Frame → List ℕ
frame_bytes f = chunk_bytes f.kind f.chunk f.body

-- only a MSG may be in several chunks, and a frame has 65,536 bytes at most
pub record IsFrame (f : Frame) : Type 0 where
  pub chunk : (f.kind ≡ kind.Msg) ⊎ (f.chunk ≡ chunk.Final)
  pub size : 8 + length f.body ≤ 65536

-- they stand one after the other, from a place of the stream on
abbrev pub AreFrom : ℕ → List Frame → Type 0
AreFrom place [] = Unit {0}
AreFrom place (f ∷ frames) = IsFrame f × (f.place ≡ place) × AreFrom (moved place (8 + length f.body)) frames

abbrev pub all_bytes : List Frame → List ℕ
all_bytes frames = flat_map frame_bytes frames

-- the bytes, from a place of a stream, are these frames and then the rest, and the rest begins with no further frame
pub record IsFramed (place : ℕ) (bytes : List ℕ) (s : Split) : Type 0 where
  pub frames : AreFrom place s.frames
  pub whole : bytes ≡ all_bytes s.frames ++ s.rest
  pub place_is : s.place ≡ moved place (length (all_bytes s.frames))
  pub longest : (f : Frame) (more : List ℕ) → IsFrame f → s.rest ≡ frame_bytes f ++ more → ⊥

-- frames that come first
abbrev pub after_frames : List Frame → Split → Split
after_frames frames s = record s { frames = frames ++ s.frames }
