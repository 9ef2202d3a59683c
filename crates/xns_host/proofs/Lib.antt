mod Again
mod Apart
mod Comings
mod Complaints
mod Done
mod Echoes
pub mod Ends
mod Fetching
mod Fitting
mod Follows
mod Foreign
mod Hearing
pub mod Joining
pub mod Leaving
pub mod Meant
pub mod Noting
mod OnTerms
mod Openers
mod Passing
mod Ordered
pub mod Placed
pub mod Registered
mod Serving
mod Turns
mod Undone
mod Waking
