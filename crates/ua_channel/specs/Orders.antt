-- What an end does by orders: messages put, limits learned, a channel renewed (OPC 10000-6, 6.7).
use Rattle.std.specs.Prelude.{◌≡◌, ℕ, Bool, true, false, ◌||◌, nat_le, List, [], ◌∷◌, ◌++◌, length, Result, Ok, Err, if◌then◌else◌}
use Rattle.ua_chunks.specs.declared.frame.Kind.{Kind}
use Rattle.ua_chunks.specs.declared.frame.Kind.TheVariants as kind
use Rattle.ua_chunks.specs.Assembly.{renewed}
use Rattle.ua_chunks.specs.Sending.{Part, Sending, after_put, limit_of, parts_bytes, parts_of, whole_part, with_limits}
use Rattle.ua_channel.specs.declared.fault.ChannelFault.{ChannelFault}
use Rattle.ua_channel.specs.declared.fault.ChannelFault.TheVariants as faults
use Rattle.ua_channel.specs.declared.wire.Order.{Order}
use Rattle.ua_channel.specs.declared.wire.Order.TheVariants as order
use Rattle.ua_channel.specs.State.{ChannelState, WireState}

-- ---- how much is put

abbrev pub is_greeting : Kind → Bool
is_greeting kind.Hel = true
is_greeting kind.Ack = true
is_greeting kind.Err = true
is_greeting kind.Opn = false
is_greeting kind.Msg = false
is_greeting kind.Clo = false

-- a body of so many bytes is put: greetings have no limit but their frame's
abbrev pub fits : Kind → ℕ → Sending → Bool
fits k count s = is_greeting k || nat_le count (limit_of s)

abbrev pub is_fitting : WireState → Sending → Bool
is_fitting w s = fits w.kind (length w.body) s

-- ---- a message put

-- a message is put with the channel and the token that it names
abbrev pub renewed_for : WireState → Sending → Sending
renewed_for w s = record s { channel = w.channel; token = w.token }

abbrev pub wire_parts_by : Kind → WireState → Sending → List Part
wire_parts_by kind.Hel w s = whole_part kind.Hel w.body ∷ []
wire_parts_by kind.Ack w s = whole_part kind.Ack w.body ∷ []
wire_parts_by kind.Err w s = whole_part kind.Err w.body ∷ []
wire_parts_by kind.Opn w s = parts_of kind.Opn w.request w.body s
wire_parts_by kind.Msg w s = parts_of kind.Msg w.request w.body s
wire_parts_by kind.Clo w s = parts_of kind.Clo w.request w.body s

abbrev pub wire_parts : WireState → Sending → List Part
wire_parts w s = wire_parts_by w.kind w s

abbrev pub wire_bytes : WireState → Sending → List ℕ
wire_bytes w s = parts_bytes (wire_parts w s)

-- the numbers that its chunks had are used up; a greeting has none
abbrev pub after_wire : WireState → Sending → Sending
after_wire w s = after_put w.kind w.request w.body s

unfoldable pub put_on : WireState → ChannelState → ChannelState
put_on w c = record c {
  sending = after_wire w (renewed_for w c.sending);
  out = c.out ++ wire_bytes w (renewed_for w c.sending);
}

-- ---- orders

-- limits and renewals always fit
abbrev pub fits_in : Order → Sending → Bool
fits_in (order.Put w) s = is_fitting w s
fits_in (order.Limit l) s = true
fits_in (order.Renew channel token) s = true

abbrev pub done : Order → ChannelState → ChannelState
done (order.Put w) c = put_on w c
done (order.Limit l) c = record c { sending = with_limits l.size l.max_message l.max_chunks c.sending }
done (order.Renew channel token) c = record c { assembly = renewed channel token c.assembly }

-- a message that wasn't put leaves its channel and token alone
abbrev pub undone : Order → ChannelState → ChannelState
undone (order.Put w) c = record c { sending = renewed_for w c.sending }
undone (order.Limit l) c = c
undone (order.Renew channel token) c = c

-- a message that doesn't fit isn't put
abbrev pub obeyed : Order → ChannelState → ChannelState
obeyed o c = if fits_in o c.sending then done o c else undone o c

abbrev pub obeyed_all : List Order → ChannelState → ChannelState
obeyed_all [] c = c
obeyed_all (o ∷ orders) c = obeyed_all orders (obeyed o c)

-- the messages that orders put, in their order
abbrev pub put_by : Order → List WireState
put_by (order.Put w) = w ∷ []
put_by (order.Limit l) = []
put_by (order.Renew channel token) = []

abbrev pub puts_of : List Order → List WireState
puts_of [] = []
puts_of (o ∷ orders) = put_by o ++ puts_of orders

abbrev pub size_of : Order → ℕ
size_of (order.Put w) = length w.body
size_of (order.Limit l) = 0
size_of (order.Renew channel token) = 0

-- what `obey` answers of an end that was `old`: it puts exactly what fits
abbrev pub Obeys : {A : Type 0} → Result A ChannelFault → Order → ChannelState → ChannelState → Type 0
Obeys (Ok u) o old new = (fits_in o old.sending ≡ true) × (new ≡ done o old)
Obeys (Err (faults.TooLarge size limit)) o old new =
    (fits_in o old.sending ≡ false) × (size ≡ size_of o) × (limit ≡ limit_of old.sending) × (new ≡ undone o old)
Obeys (Err faults.OutOfMemory) o old new = new ≡ undone o old
