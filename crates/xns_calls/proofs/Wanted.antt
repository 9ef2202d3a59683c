-- Where a packet wants memory.
use Rattle.std.proofs.Common.{◌≡◌, ◌∙◌, ap, sym, refl, ℕ, Bool, true, false, cond, List, Option, Some, None, Result, Ok, Err}
use Rattle.std.specs.Option.{is_some}
use Rattle.std.specs.Prelude.{OnErr, not, slice_get, ◌||◌, ◌&&◌}
use Rattle.std.proofs.lemmas.Bool.{or_left, or_parts, or_right}
use Rattle.xns_idp.specs.Packet.{PacketModel}
use Rattle.xns_lines.specs.declared.page.Page.{Page}
use Rattle.xns_spp.specs.Header.{is_system}
use Rattle.xns_calls.specs.declared.carried.Carried.{Carried}
use Rattle.xns_spp.specs.declared.header.Header.{Header}
use Rattle.xns_calls.specs.Acknowledged.{ahead_of, due_in}
use Rattle.xns_calls.specs.Anew.{begins_anew}
use Rattle.xns_calls.specs.AtEnd.{end_turn}
use Rattle.xns_calls.specs.Capture.{Known, is_behind_in, scene_in, wants_at, end_wants_memory, wants_in, wants_there}
use Rattle.xns_calls.specs.Exchange.{Scene, advance_other, advance_own, after_content, after_data, after_number, after_packet, begin_track, begun, brings_data, brings_new, brings_on, carried, new_number, other_reached, own_reached, reached, scene, wants_memory, wants_to_take}
use Rattle.xns_calls.specs.Repeats.{tells_repeats}
use Rattle.xns_calls.specs.Turns.{next_turn}
use Rattle.xns_calls.specs.declared.connection.Connection.{Connection}
use Rattle.xns_dump.specs.declared.flows.flow.Flow.{Flow}
use Rattle.xns_calls.specs.declared.due.Due.{Due}
use Rattle.xns_calls.specs.declared.heading.Heading.{Heading}
use Rattle.xns_calls.specs.declared.side.Side.{Side}
use Rattle.xns_calls.specs.declared.track.Track.{Track}
use Rattle.xns_calls.proofs.Packets.{content_other, reached_own}
pub use Rattle.xns_spp.proofs.Steps.{on_err}

-- a flow that has not begun does so
pub none_brings : (own : Side) (field : ℕ) → own.track ≡ None → brings_new own.track field ≡ true
none_brings own field none = ap (λ o. brings_new o field) none

-- what is new once the flow has begun was new before, or the flow begins
pub begun_brings : (h : Heading) (packet : PacketModel) (f : Header) (own own' other other' : Side) (page page' : Page) (number : ℕ)
    → scene own' other' page' ≡ begun h packet f (scene own other page) → new_number own'.track f.sequence ≡ Some number → brings_new own.track f.sequence ≡ true
unfolding begun
begun_brings h packet f own own' other other' page page' number e new = by_track own.track refl
  where
    s : Scene
    s = scene own other page

    by_track : (o : Option Track) → own.track ≡ o → brings_new o f.sequence ≡ true
    by_track None at = refl
    by_track (Some track) at =
        let same : own'.track ≡ Some track = ap (λ (x : Scene). x.own.track) (e ∙ ap (λ o. begin_track h packet f o s) at) ∙ at in
        ap is_some (ap (λ o. new_number o f.sequence) (sym same) ∙ new)

-- the flow behind is brought to a number
pub other_wants : (due : Due) (f : Header) (own other : Side) (page : Page) → is_some (reached other.track due.other) ≡ true → wants_to_take due f (scene own other page) ≡ true
other_wants due f own other page e =
    or_left (brings_on due (scene own other page)) (brings_data f own.track) (or_left (is_some (reached other.track due.other)) (is_some (reached own.track due.own)) e)

-- a packet to the connection at a place wants memory where that connection does
pub in_wants : (i : ℕ) (flow : Flow) (f : Header) (connection : Connection) (k : Known) → slice_get k.connections i ≡ Some connection
    → wants_in (is_behind_in flow connection) f connection k ≡ true → wants_at i flow f k ≡ true
in_wants i flow f connection k at e =
    ap (λ o. wants_there flow f o k) at ∙ or_right (begins_anew f connection) (wants_in (is_behind_in flow connection) f connection k) e

-- a packet that tells of repeats wants memory
pub tells_wants : (b : Bool) (f : Header) (connection : Connection) (k : Known) → tells_repeats b f connection ≡ true → wants_in b f connection k ≡ true
tells_wants b f connection k e =
    or_left (tells_repeats b f connection) (is_some (ahead_of b f connection) || wants_memory (due_in b f connection) f (scene_in b connection k)) e

-- a packet wants memory where what it acknowledges is kept
pub ahead_wants : (b : Bool) (f : Header) (connection : Connection) (k : Known) → is_some (ahead_of b f connection) ≡ true → wants_in b f connection k ≡ true
ahead_wants b f connection k e =
    or_right (tells_repeats b f connection) (is_some (ahead_of b f connection) || wants_memory (due_in b f connection) f (scene_in b connection k))
    (or_left (is_some (ahead_of b f connection)) (wants_memory (due_in b f connection) f (scene_in b connection k)) e)

pub memory_wants : (b : Bool) (f : Header) (connection : Connection) (k : Known) → wants_memory (due_in b f connection) f (scene_in b connection k) ≡ true → wants_in b f connection k ≡ true
memory_wants b f connection k e =
    or_right (tells_repeats b f connection) (is_some (ahead_of b f connection) || wants_memory (due_in b f connection) f (scene_in b connection k))
    (or_right (is_some (ahead_of b f connection)) (wants_memory (due_in b f connection) f (scene_in b connection k)) e)

-- the end of a connection of which a flow keeps items wants memory
pub end_wants : (connection : Connection) (o : Option Connection) → o ≡ Some connection → is_some (end_turn connection.first.track connection.second.track) ≡ true → end_wants_memory o ≡ true
end_wants connection o at e = ap end_wants_memory at ∙ e

-- what is new behind that was new before
pub content_wants : (h : Heading) (due : Due) (f : Header) (own other own' other' : Side) (page page' : Page) → scene own' other' page' ≡ other_reached h due.other (scene own other page)
    → brings_data f own'.track ≡ true → wants_to_take due f (scene own other page) ≡ true
content_wants h due f own other own' other' page page' e new =
    let same : own'.track ≡ own.track = ap (λ (x : Scene). x.own.track) e ∙ reached_own h due.other (scene own other page) in
    or_right (brings_on due (scene own other page)) (brings_data f own.track) (ap (brings_data f) (sym same) ∙ new)

-- where nothing is new the flow stays as it was
number_stays : (h : Heading) (o : Option ℕ) (item : Carried) (s : Scene) → is_some o ≡ false → (after_number h o item s).own.track ≡ s.own.track
number_stays h None item s e = refl
number_stays h (Some n) item s e = (cc)

data_stays : (h : Heading) (a : Option ℕ) (packet : PacketModel) (f : Header) (content : List ℕ) (s : Scene) → brings_new s.own.track f.sequence ≡ false → (after_data h a packet f content s).own.track ≡ s.own.track
unfolding after_data begun
data_stays h a packet f content s e = by_track s.own.track refl
  where
    item : Carried
    item = carried h a f content

    by_track : (o : Option Track) → s.own.track ≡ o
        → (after_number h (new_number (begin_track h packet f s.own.track s).own.track f.sequence) item (begin_track h packet f s.own.track s)).own.track ≡ s.own.track
    by_track None at = let wrong : true ≡ false = sym (ap (λ o. brings_new o f.sequence) at) ∙ e in (cc)
    by_track (Some track) at =
        let same : begin_track h packet f s.own.track s ≡ s = ap (λ o. begin_track h packet f o s) at in
        let old : is_some (new_number s.own.track f.sequence) ≡ false = ap (λ o. is_some (new_number o f.sequence)) at ∙ sym (ap (λ o. brings_new o f.sequence) at) ∙ e in
        ap (λ x. (after_number h (new_number x.own.track f.sequence) item x).own.track) same ∙ number_stays h (new_number s.own.track f.sequence) item s old

content_stays : (h : Heading) (a : Option ℕ) (packet : PacketModel) (f : Header) (content : List ℕ) (s : Scene) → brings_data f s.own.track ≡ false
    → (after_content h a packet f content s).own.track ≡ s.own.track
unfolding after_content
content_stays h a packet f content s = over (is_system f)
  where
    over : (p : Bool) → (not p && brings_new s.own.track f.sequence) ≡ false → (cond p s (after_data h a packet f content s)).own.track ≡ s.own.track
    over true e = refl
    over false e = data_stays h a packet f content s e

-- the packet's own flow is brought to a number
pub own_wants : (h : Heading) (due : Due) (packet : PacketModel) (f : Header) (content : List ℕ) (own other own' other' own'' other'' : Side) (page page' page'' : Page)
    → scene own' other' page' ≡ other_reached h due.other (scene own other page) → scene own'' other'' page'' ≡ after_content h due.acknowledged packet f content (scene own' other' page')
    → is_some (reached own''.track due.own) ≡ true → wants_to_take due f (scene own other page) ≡ true
own_wants h due packet f content own other own' other' own'' other'' page page' page'' e e' wants = by_new (brings_data f own'.track) refl
  where
    by_new : (p : Bool) → brings_data f own'.track ≡ p → wants_to_take due f (scene own other page) ≡ true
    by_new true new = content_wants h due f own other own' other' page page' e new
    by_new false old =
        let first : own'.track ≡ own.track = ap (λ (x : Scene). x.own.track) e ∙ reached_own h due.other (scene own other page) in
        let second : own''.track ≡ own'.track = ap (λ (x : Scene). x.own.track) e' ∙ content_stays h due.acknowledged packet f content (scene own' other' page') old in
        or_left (brings_on due (scene own other page)) (brings_data f own.track)
        (or_right (is_some (reached other.track due.other)) (is_some (reached own.track due.own)) (ap (λ o. is_some (reached o due.own)) (sym (second ∙ first)) ∙ wants))

-- ---- where an item can be read

pub no_number : (o : Option ℕ) → is_some o ≡ false → o ≡ None
no_number None e = refl
no_number (Some n) e = (cc)

none_reached_own : (h : Heading) (number : Option ℕ) (s : Scene) → is_some (reached s.own.track number) ≡ false → own_reached h number s ≡ s
unfolding own_reached
none_reached_own h number s e = ap (λ o. advance_own h o s) (no_number (reached s.own.track number) e)

none_reached_other : (h : Heading) (number : Option ℕ) (s : Scene) → is_some (reached s.other.track number) ≡ false → other_reached h number s ≡ s
unfolding other_reached
none_reached_other h number s e = ap (λ o. advance_other h o s) (no_number (reached s.other.track number) e)

-- a packet that wants no memory leaves what is kept of both flows
packet_stays : (h : Heading) (due : Due) (packet : PacketModel) (f : Header) (content : List ℕ) (s : Scene) → wants_to_take due f s ≡ false
    → ((after_packet h due packet f content s).own.track ≡ s.own.track) × ((after_packet h due packet f content s).other.track ≡ s.other.track)
unfolding after_packet
packet_stays h due packet f content s e =
    let neither = or_parts (brings_on due s) (brings_data f s.own.track) e in
    let unreached = or_parts (is_some (reached s.other.track due.other)) (is_some (reached s.own.track due.own)) neither.0 in
    let first : other_reached h due.other s ≡ s = none_reached_other h due.other s unreached.0 in
    let u = after_content h due.acknowledged packet f content s in
    let own : u.own.track ≡ s.own.track = content_stays h due.acknowledged packet f content s neither.1 in
    let other : u.other.track ≡ s.other.track = content_other h due.acknowledged packet f content s in
    let last : own_reached h due.own u ≡ u = none_reached_own h due.own u (ap (λ o. is_some (reached o due.own)) own ∙ unreached.1) in
    let all : own_reached h due.own (after_content h due.acknowledged packet f content (other_reached h due.other s)) ≡ u =
    ap (λ x. own_reached h due.own (after_content h due.acknowledged packet f content x)) first ∙ last in
    (ap (λ (x : Scene). x.own.track) all ∙ own, ap (λ (x : Scene). x.other.track) all ∙ other)

-- an item that can be read behind a packet could be read before, or the packet wants memory itself
pub turn_wants : (h : Heading) (due : Due) (packet : PacketModel) (f : Header) (content : List ℕ) (own other own' other' : Side) (page page' : Page)
    → scene own' other' page' ≡ after_packet h due packet f content (scene own other page) → is_some (next_turn due.given own'.track other'.track) ≡ true
    → wants_memory due f (scene own other page) ≡ true
turn_wants h due packet f content own other own' other' page page' e turn = by_wants (wants_to_take due f s) refl
  where
    s : Scene
    s = scene own other page

    by_wants : (p : Bool) → wants_to_take due f s ≡ p → wants_memory due f s ≡ true
    by_wants true w = or_left (wants_to_take due f s) (is_some (next_turn due.given own.track other.track)) w
    by_wants false w =
        let same = packet_stays h due packet f content s w in
        or_right (wants_to_take due f s) (is_some (next_turn due.given own.track other.track))
        (ap (λ o. is_some (next_turn due.given o other.track)) (sym (ap (λ (x : Scene). x.own.track) e ∙ same.0))
        ∙ ap (λ o. is_some (next_turn due.given own'.track o)) (sym (ap (λ (x : Scene). x.other.track) e ∙ same.1)) ∙ turn)

-- a data packet brings something new
pub data_wants : (due : Due) (f : Header) (own other : Side) (page : Page) → is_system f ≡ false → brings_new own.track f.sequence ≡ true → wants_memory due f (scene own other page) ≡ true
data_wants due f own other page plain new =
    let s : Scene = scene own other page in
    or_left (wants_to_take due f s) (is_some (next_turn due.given own.track other.track))
    (or_right (brings_on due s) (brings_data f own.track) (ap (λ p. not p && brings_new own.track f.sequence) plain ∙ new))

pub take_wants : (due : Due) (f : Header) (s : Scene) → wants_to_take due f s ≡ true → wants_memory due f s ≡ true
take_wants due f s e = or_left (wants_to_take due f s) (is_some (next_turn due.given s.own.track s.other.track)) e

pub on_err_with : {T E : Type 0} (r : Result T E) (A B : Type 0) → OnErr r A → (A → B) → OnErr r B
on_err_with (Ok x) A B a f = tt
on_err_with (Err x) A B a f = f a
