-- Runs of copies: each is a message that was sent once, however often it was repeated.
use Rattle.std.specs.Prelude.{◌≡◌, ◌⊎◌, ◌≤◌, ◌<◌, ℕ, ◌+◌, max, Bool, ◌&&◌, nat_le, if◌then◌else◌, List, [], ◌∷◌, Option, None, Some}
use Rattle.std.specs.Ordering.{is_eq}
use Rattle.aprs_ax25.specs.Callsign.{Call}
use Rattle.aprs_transmissions.specs.Lists.{◌∈◌, Ordered}
use Rattle.aprs_transmissions.specs.Order.{IsBelow, IsUpTo}
use Rattle.aprs_lists.specs.Copies.{Copy, copy_cmp, message_named}
use Rattle.aprs_summary.specs.Messages.{Message, message_cmp}
use Rattle.aprs_lists.specs.declared.net.runs.MessageRun.{MessageRun}

-- A message of one run: from when to when it was sent, the gate of its first copy, and when the
-- next run of the message begins, if there is one.
pub record Sent : Type 0 where
  pub message : Message
  pub first : ℕ
  pub last : ℕ
  pub gate : Option Call
  pub until : Option ℕ

-- ---- over the set of copies

-- A copy of the message was on the air at this moment.
abbrev pub SentAt : List Copy → Message → ℕ → Type 0
SentAt copies m moment =
    (c : Copy) × (c ∈ copies) × (c.message ≡ m) × (c.first ≤ moment) × (moment ≤ c.last)

-- The moments that something was at, from one to another, are a run. It was there at the first and
-- at the last, which isn't before it; after each before the last comes one at most `gap`
-- milliseconds later; and none lies that near before the first or after the last. So a transmission
-- is a run of the moments at which its key was heard.
pub record IsRunOf (gap : ℕ) (At : ℕ → Type 0) (first last : ℕ) : Type 0 where
  pub in_order : first ≤ last
  pub at_first : At first
  pub at_last : At last
  pub none_before : (m : ℕ) → m < first → first ≤ m + gap → At m → ⊥
  pub none_after : (m : ℕ) → last < m → m ≤ last + gap → At m → ⊥
  pub linked : (m : ℕ) → At m → first ≤ m → m < last
      → (n : ℕ) × (m < n) × (n ≤ m + gap) × At n

-- The copy is the first of its message from this moment on: it begins then, and no other that
-- begins no earlier comes before it in the order of copies.
pub record IsFirstCopy (copies : List Copy) (m : Message) (first : ℕ) (c : Copy) : Type 0 where
  pub member : c ∈ copies
  pub message : c.message ≡ m
  pub begins : c.first ≡ first
  pub least : (d : Copy) → d ∈ copies → d.message ≡ m → first ≤ d.first → IsUpTo copy_cmp c d

-- When a copy of the message begins the next time after this moment, if one does.
abbrev pub IsNextBegin : List Copy → Message → ℕ → Option ℕ → Type 0
IsNextBegin copies m last None = (c : Copy) → c ∈ copies → c.message ≡ m → last < c.first → ⊥
IsNextBegin copies m last (Some begin) =
    ((c : Copy) × (c ∈ copies) × (c.message ≡ m) × (c.first ≡ begin)) × (last < begin)
    × ((d : Copy) → d ∈ copies → d.message ≡ m → last < d.first → begin ≤ d.first)

-- The message was sent once from its first to its last moment: its copies are a run then, the gate
-- is that of the first copy, and the next copy begins the next run.
pub record IsSentOnce (gap : ℕ) (copies : List Copy) (r : Sent) : Type 0 where
  pub run : IsRunOf gap (SentAt copies r.message) r.first r.last
  pub gate : (c : Copy) × IsFirstCopy copies r.message r.first c × (c.gate ≡ r.gate)
  pub until : IsNextBegin copies r.message r.last r.until

-- The one comes before the other: its message is below the other's, or they are of one message, and
-- the other begins later.
abbrev pub IsSentBefore : Sent → Sent → Type 0
IsSentBefore r s = IsBelow message_cmp r.message s.message
    ⊎ ((r.message ≡ s.message) × (r.first < s.first))

-- The copy is one of the run's.
pub record IsCopyOf (r : Sent) (c : Copy) : Type 0 where
  pub message : r.message ≡ c.message
  pub begins : r.first ≤ c.first
  pub ends : c.last ≤ r.last

-- These are the runs of the copies under this gap, in order: each is one, and each copy is of one.
pub record AreSent (gap : ℕ) (copies : List Copy) (rs : List Sent) : Type 0 where
  pub ascending : Ordered IsSentBefore rs
  pub each : (r : Sent) → r ∈ rs → IsSentOnce gap copies r
  pub every : (c : Copy) → c ∈ copies → (r : Sent) × (r ∈ rs) × IsCopyOf r c

-- Each copy ends no earlier than it begins.
abbrev pub AreInTime : List Copy → Type 0
AreInTime copies = (c : Copy) → c ∈ copies → c.first ≤ c.last

-- A `MessageRun` of the code, as definitions have it.
abbrev pub sent_of : MessageRun → Sent
sent_of x = record {
  message = message_named x.copy.now.message;
  first = x.copy.now.first;
  last = x.last;
  gate = x.copy.now.gate;
  until = x.until;
}

-- ---- one copy after another

-- The run that begins with a copy, up to a moment.
abbrev pub sent_up_to : ℕ → Copy → Sent
sent_up_to last c = record {
  message = c.message;
  first = c.first;
  last = last;
  gate = c.gate;
  until = None;
}

-- The run that begins with a copy.
abbrev pub sent_first : Copy → Sent
sent_first c = sent_up_to c.last c

-- The run with one more copy.
abbrev pub sent_again : Sent → Copy → Sent
sent_again r c = record {
  message = r.message;
  first = r.first;
  last = max r.last c.last;
  gate = r.gate;
  until = r.until;
}

-- Whether both are the same message.
abbrev pub is_same : Message → Message → Bool
is_same m n = is_eq (message_cmp m n)

-- Whether the copy goes on the run: it is of its message, and begins at most the gap after its end.
abbrev pub goes_on : ℕ → Sent → Copy → Bool
goes_on gap r c = is_same r.message c.message && nat_le c.first (r.last + gap)

-- When the next run of a message begins: at the first of the copies behind, if that is one of it.
abbrev pub next_begin : Message → List Copy → Option ℕ
next_begin m [] = None
next_begin m (c ∷ cs) = if is_same m c.message then Some c.first else None

-- The run, which ends before these copies.
abbrev pub ended : Sent → List Copy → Sent
ended r cs = record {
  message = r.message;
  first = r.first;
  last = r.last;
  gate = r.gate;
  until = next_begin r.message cs;
}

-- The runs of copies that come in order, after a run that goes on.
abbrev pub runs_after : ℕ → Sent → List Copy → List Sent
runs_after gap r [] = ended r [] ∷ []
runs_after gap r (c ∷ cs) = if goes_on gap r c then runs_after gap (sent_again r c) cs
    else (ended r (c ∷ cs) ∷ runs_after gap (sent_first c) cs)

-- The runs of copies that come in order.
abbrev pub runs_of : ℕ → List Copy → List Sent
runs_of gap [] = []
runs_of gap (c ∷ cs) = runs_after gap (sent_first c) cs

-- Looking at one copy after another, in their order, finds the runs.
abbrev pub PlainIsSent : Type 0
PlainIsSent = (gap : ℕ) (copies : List Copy) → 0 < gap → AreInTime copies
    → Ordered (IsUpTo copy_cmp) copies → AreSent gap copies (runs_of gap copies)
