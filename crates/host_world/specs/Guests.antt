-- What a host does at a connection of a meeting is a step of the meeting.
use Rattle.std.specs.Prelude.{◌≡◌, ℕ, Bool, List, [], ◌∷◌, Option, Some, None, Result, Ok, Err}
use Rattle.courier_messages.specs.RawCalls.{RawCall}
use Rattle.courier_messages.specs.declared.message.Message.{Message}
use Rattle.courier_sessions.specs.Answering.{answer_message}
use Rattle.courier_sessions.specs.declared.answer.Answer.{Answer}
use Rattle.courier_sessions.specs.declared.program.Program.{Program}
use Rattle.item_world.specs.declared.side.Side.{Side}
use Rattle.xns_connection.specs.Deeds as deeds
use Rattle.xns_connection.specs.Living.{Deeds}
use Rattle.xns_connection.specs.Story.{asked_of, waiting_message}
use Rattle.xns_host.specs.Went.{GuestActs, GuestAnnounced, GuestGives, GuestHears, GuestStep, GuestTells, GuestUnserved}
use Rattle.xns_host.specs.declared.guest.Guest.{Guest}
use Rattle.xns_host.specs.declared.host_fault.HostFault.{HostFault}
use Rattle.xns_host.specs.declared.outgoing.Outgoing.{Outgoing}
use Rattle.host_world.specs.Meeting.{Meeting, at}
use Rattle.host_world.specs.Meets.{Meets}
use Rattle.host_world.specs.Pairing.{DoesAt, MayCome, with_no_more, one_answer_more, one_call_more, one_message_more}
use Rattle.host_world.specs.declared.station.Station.{Station}

-- at most so many steps led on from this meeting to one in which the connection at this side is this one; the program there did so meanwhile,
-- and the connection gave these packets
pub record LeadsTo (a b : Station) (programs : List Program) (most : ℕ) (m : Meeting) (side : Side) (h : Guest) (did : Deeds → Deeds)
    (gave : List (List ℕ)) : Type 0 where
  pub next : Meeting
  pub meets : Meets a b programs next
  pub same : (at next side).conversation ≡ h.connection.conversation
  pub does : DoesAt most m next side did gave

-- whatever meeting the one connection is in, at most so many steps lead on to one that the other is in
abbrev pub LeadsOn : (most : ℕ) (g h : Guest) (did : Deeds → Deeds) (gave : List (List ℕ)) → Type 0
LeadsOn most g h did gave = (a b : Station) (programs : List Program) (m : Meeting) (side : Side) → Meets a b programs m
    → (at m side).conversation ≡ g.connection.conversation → LeadsTo a b programs most m side h did gave

-- whatever meeting the one connection is in, to which these bytes may come, at most one step leads on to one that the other is in
abbrev pub HearsOn : (g h : Guest) (did : Deeds → Deeds) (bytes : List ℕ) → Type 0
HearsOn g h did bytes = (a b : Station) (programs : List Program) (m : Meeting) (side : Side) → Meets a b programs m
    → (at m side).conversation ≡ g.connection.conversation → MayCome m side bytes → LeadsTo a b programs 1 m side h did []

-- the packet that goes out, if one does
abbrev pub packet_returned : Result (Option Outgoing) HostFault → List (List ℕ)
packet_returned (Ok (Some o)) = o.packet ∷ []
packet_returned (Ok None) = []
packet_returned (Err e) = []

-- what a host does at a connection of a meeting leads on: a call, an answer, a close, a message that is handed, what is due, an Error packet
-- about a packet of it, and bytes that may come, each in at most one step; a packet that is given, or none, in at most two, since the
-- connection moves what can move first; and the reason that is told or that the connection is open in none
pub record WhatAHostDoesIsAStepOfTheMeeting : Type 0 where
  pub calls : (now : ℕ) (c : RawCall) (g h : Guest) → GuestStep now (deeds.made c) g h → LeadsOn 1 g h (one_call_more c) []
  pub answers : (now : ℕ) (kind : Answer) (k : ℕ) (words : List ℕ) (g h : Guest) → GuestStep now (deeds.gave kind words) g h
      → asked_of g.connection.conversation.side ≡ Some k → LeadsOn 1 g h (one_answer_more (answer_message kind k words)) []
  pub closes : (now : ℕ) (g h : Guest) → GuestStep now deeds.asked g h → LeadsOn 1 g h with_no_more []
  pub hands : (now : ℕ) (m : Message) (g h : Guest) → GuestTells now g h → waiting_message g.connection.conversation.side ≡ Some m
      → LeadsOn 1 g h (one_message_more m) []
  pub tells : (now : ℕ) (g h : Guest) → GuestTells now g h → waiting_message g.connection.conversation.side ≡ None → LeadsOn 0 g h with_no_more []
  pub announces : (g h : Guest) → GuestAnnounced g h → LeadsOn 0 g h with_no_more []
  pub acts : (now : ℕ) (g h : Guest) → GuestActs now g h → LeadsOn 1 g h with_no_more []
  pub not_served : (now error : ℕ) (g h : Guest) → GuestUnserved now error g h → LeadsOn 1 g h with_no_more []
  pub gives : (now : ℕ) (result : Result (Option Outgoing) HostFault) (g h : Guest) → GuestGives now result g h
      → LeadsOn 2 g h with_no_more (packet_returned result)
  pub hears : (now : ℕ) (bytes : List ℕ) (confirming : Bool) (g h : Guest) → GuestHears now bytes confirming g h → HearsOn g h with_no_more bytes
