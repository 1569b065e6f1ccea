pub mod Booleans
pub mod Lists
pub mod Numbers
pub mod Options
pub mod Orders
pub mod Results
pub mod Trees
pub mod TextLaws
