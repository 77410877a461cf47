-- What a server over messages is asked for: what it keeps, and that its orders are lawful and fit where they are heard.
use Rattle.std.proofs.Common.{◌≡◌, ℕ, Bool, true, false, cond, List, [], ◌∷◌, None, refl, subst}
use Rattle.std.specs.List.{AllByRecursion}
use Rattle.ua_base.specs.Status.{bad_secure_channel_token_unknown, bad_tcp_message_type_invalid, bad_tcp_secure_channel_unknown}
use Rattle.ua_chunks.specs.Assembly.{Tokens}
use Rattle.ua_chunks.specs.Sending.{Sending, limit_of}
use Rattle.ua_channel.specs.declared.heard.Heard.{Heard}
use Rattle.ua_channel.specs.declared.heard.Heard.TheVariants as said
use Rattle.ua_channel.specs.declared.wire.Order.{Order}
use Rattle.ua_channel.specs.State.{WireState, first_sending}
use Rattle.ua_channel.specs.Arriving.{after_orders}
use Rattle.ua_channel.specs.Hearing.{takes}
use Rattle.ua_channel.specs.Messages.{Judged, hearing_of, judged_by, judges, message_of_channel}
use Rattle.ua_services.specs.declared.reply.Reply.{Reply}
use Rattle.ua_services.specs.Families.{reply_put, written_reply}
use Rattle.server_rules.specs.State.{ServerState, conn_at}
use Rattle.server_rules.specs.Said.{Acknowledged, Limited, Opened, Refused, Renewed, Replied, Said, Told, orders_of, told_order, wire}
use Rattle.server_rules.specs.Opening.{opening_reply}
use Rattle.server_rules.specs.Step.{Happening, Hears, Opens, after}
use Rattle.server_keeps.specs.Fitting.{FitsHappening, FitsHeard, FitsServer, KeepsDid, KeepsSaid, KeepsTold}
use Rattle.server_keeps.specs.Lawful.{HasLimit, IsLawfulOn, OpensOther, orders_for}
use Rattle.link_keeps.specs.Fitting as link
use Rattle.message_ends.specs.Showing.{OrderBrings, OrdersBring}
use Rattle.message_ends.proofs.Ordering.{IsLawfulFor}
use Rattle.server_messages.specs.Fitting.{Brings}
use Rattle.server_messages.specs.Messages.{answers}

-- what other crates' laws say: of a server after a step, of its orders, and of replies where a link hears them
pub record Rules : Type 0 where
  pub keeps : (happening : Happening) (s : ServerState) → FitsServer s → FitsHappening happening → KeepsDid (after happening s)
  pub lawful : (number : ℕ) (sending : Sending) (happening : Happening) (s : ServerState) → FitsServer s
      → FitsHappening happening → OpensOther number happening → HasLimit number (limit_of sending) s
      → IsLawfulOn number sending (after happening s)
  pub opens : (number : ℕ) (s : ServerState) → conn_at number s.conns ≡ None
      → HasLimit number (limit_of first_sending) (after (Opens number) s).state
  pub message : (number : ℕ) (r : Reply) → (reply_put r).keeps → link.FitsHeard (said.Message number (written_reply r))
  pub opening : (channel : ℕ) (follows : Bool) (number : ℕ) (r : Reply) → (reply_put r).keeps
      → link.FitsHeard (said.Opening channel follows number (written_reply r))

-- ---- what is heard of a message

-- one that isn't taken is a fault, whatever it says
fits_taken : (b : Bool) (j : Judged) (t : Tokens) → link.FitsHeard j.heard
    → link.FitsHeard (cond b j (judges (said.Fault bad_tcp_message_type_invalid) t)).heard
fits_taken true j t fits = fits
fits_taken false j t fits = tt

fits_judged : (w : WireState) → ((t : Tokens) → link.FitsHeard (judged_by w.kind w t).heard) → Brings w
unfolding hearing_of
fits_judged w fits e t = fits_taken (takes e w.kind) (judged_by w.kind w t) t (fits t)

fits_tokened : (b c : Bool) (h : Heard) (t u : Tokens) → link.FitsHeard h
    → link.FitsHeard (cond b (judges (said.Fault bad_tcp_secure_channel_unknown) t)
    (cond c (judges (said.Fault bad_secure_channel_token_unknown) t) (judges h u))).heard
fits_tokened true c h t u fits = tt
fits_tokened false true h t u fits = tt
fits_tokened false false h t u fits = fits

fits_channel : (h : Heard) (w : WireState) (t : Tokens) → link.FitsHeard h → link.FitsHeard (message_of_channel h w t).heard
fits_channel h w t fits = fits_tokened _ _ h t _ fits

-- ---- what a server says fits where it is heard

told_brings : Rules → (channel token : ℕ) (told : Told) → KeepsTold told → OrderBrings Brings (told_order channel token told)
told_brings law channel token (Acknowledged greeting) keeps = fits_judged _ (λ t. tt)
told_brings law channel token (Opened request response) keeps =
    fits_judged _ (λ t. law.opening channel true request (opening_reply response) keeps.1.keeps)
told_brings law channel token (Replied request answer) keeps =
    fits_judged _ (λ t. fits_channel (said.Message request (written_reply answer)) (wire channel token request (written_reply answer)) t
    (law.message request answer keeps.1.keeps))
told_brings law channel token (Refused code) keeps = fits_judged _ (λ t. tt)
told_brings law channel token (Limited limits) keeps = tt
told_brings law channel token (Renewed new other) keeps = tt

all_bring : Rules → (all : List Said) → AllByRecursion KeepsSaid all → OrdersBring Brings (orders_of all)
all_bring law [] keep = tt
all_bring law (one ∷ more) keep = (told_brings law one.channel one.token one.told keep.0.told, all_bring law more keep.1)

-- ---- whatever happens

pub keeps : Rules → (happening : Happening) (s : ServerState) → FitsServer s → FitsHappening happening → FitsServer (after happening s).state
keeps law happening s fits happens = (law.keeps happening s fits happens).state

pub brings : Rules → (happening : Happening) (s : ServerState) → FitsServer s → FitsHappening happening
    → OrdersBring Brings (orders_of (after happening s).said)
brings law happening s fits happens = all_bring law (after happening s).said (law.keeps happening s fits happens).said

pub lawful : Rules → (number : ℕ) (happening : Happening) (s : ServerState) → FitsServer s → FitsHappening happening
    → OpensOther number happening → IsLawfulFor HasLimit number (orders_of (after happening s).said) s (after happening s).state
lawful law number happening s fits happens other sending limit =
    let is = law.lawful number sending happening s fits happens other limit in (is.lawful, is.limit)

-- ---- what is heard on a connection

pub heard_keeps : Rules → (conn : ℕ) (h : Heard) (s : ServerState) → FitsServer s → FitsHeard h → FitsServer (answers conn h s).0
heard_keeps law conn h s fits one = keeps law (Hears conn h) s fits one

pub heard_lawful : Rules → (conn number : ℕ) (h : Heard) (s : ServerState) → FitsServer s → FitsHeard h
    → IsLawfulFor HasLimit number (answers conn h s).1 s (answers conn h s).0
heard_lawful law conn number h s fits one = lawful law number (Hears conn h) s fits one tt

pub heard_brings : Rules → (conn : ℕ) (h : Heard) (s : ServerState) → FitsServer s → FitsHeard h → OrdersBring Brings (answers conn h s).1
heard_brings law conn h s fits one = brings law (Hears conn h) s fits one
